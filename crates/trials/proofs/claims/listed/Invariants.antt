use Rattle.std.proofs.Common.{◌≡◌, ◌∷◌, take}
use Rattle.trials.proofs.claims.listed.Given as goal

-- the numbers so far are the width and the women so far
abbrev pub invariant-loop-woman : goal.invariant-loop-woman
invariant-loop-woman l = l.numbers.items ≡ l.width ∷ take l.woman-index l.women
