use Rattle.vk_matching.specs.Courting.{IsChoice, court_in}
use Rattle.vk_matching.proofs.courting.Courtship.choice.Given as goal

abbrev pub invariant-loop-woman : goal.invariant-loop-woman
invariant-loop-woman l = IsChoice (court_in l.ranks l.self) l.man l.woman l.choice
