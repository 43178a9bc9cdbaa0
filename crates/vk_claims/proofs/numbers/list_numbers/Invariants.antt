use Rattle.std.proofs.Common.{◌≡◌, ◌++◌, take}
use Rattle.vk_claims.proofs.numbers.list_numbers.Given as goal

-- the numbers so far are the front and the persons so far
abbrev pub invariant-loop-person : goal.invariant-loop-person
invariant-loop-person l = l.numbers.items ≡ l.fn.front ++ take l.person-index l.persons
