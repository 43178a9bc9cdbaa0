use Rattle.std.proofs.Common.{subst}
use Rattle.vk_judge.specs.declared.opened.Refusal.TheVariants.{Fault}
use Rattle.vk_judge.specs.Two.{BothAreAccepted}
use Rattle.vk_judge.proofs.Found.{told_accepted}
use Rattle.vk_judge.proofs.two.as_found.Goals as goal

pub returns-clause-value : goal.returns-clause-value
returns-clause-value g c = c.told-found.ensures Fault (λ _ _ is. is)

pub returns-clause-accepted : goal.returns-clause-accepted
returns-clause-accepted g c = λ accepted.
    told_accepted Fault c.args.finding
    (subst BothAreAccepted (c.told-found.ensures Fault (λ _ _ is. is)) accepted)
