use Rattle.std.proofs.Common.{◌≡◌, ◌∷◌, take}
use Rattle.vk_plan_tests.proofs.tests.matching.listed.Given as goal

abbrev pub invariant-loop-woman : goal.invariant-loop-woman
invariant-loop-woman l = l.numbers.items ≡ l.width ∷ take l.woman-index l.women
