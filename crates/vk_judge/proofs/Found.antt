-- What is found stays accepted, or refused, in other words.
use Rattle.vk_judge.specs.declared.stage.Finding.{Finding}
use Rattle.vk_judge.specs.declared.stage.Finding.TheVariants.{Refused, Same, Ready}
use Rattle.vk_judge.specs.Found.{told_by}
use Rattle.vk_judge.specs.Two.{BothAreAccepted}

pub told_accepted : {V W : Type 0} (tell : V → W) (finding : Finding V)
    → BothAreAccepted (told_by tell finding) → BothAreAccepted finding
told_accepted tell (Refused second verdict) accepted = absurd accepted
told_accepted tell Same accepted = accepted
told_accepted tell Ready accepted = accepted
