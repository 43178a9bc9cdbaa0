use Rattle.std.proofs.Common.{◌≡◌, take}
use Rattle.vk_claims.proofs.making.residues.Given as goal

-- the residues so far are the numbers so far
abbrev pub invariant-loop-number : goal.invariant-loop-number
invariant-loop-number l = l.same.items ≡ take l.number-index l.numbers
