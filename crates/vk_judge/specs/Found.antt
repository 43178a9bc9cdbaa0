-- What is found, as it is told elsewhere.
use Rattle.vk_judge.specs.declared.stage.Finding.{Finding}
use Rattle.vk_judge.specs.declared.stage.Finding.TheVariants.{Refused, Same, Ready}

-- the same, with its verdict told in other words
abbrev pub told_by : {V W : Type 0} → (V → W) → Finding V → Finding W
told_by tell (Refused second verdict) = Refused second (tell verdict)
told_by tell Same = Same
told_by tell Ready = Ready
