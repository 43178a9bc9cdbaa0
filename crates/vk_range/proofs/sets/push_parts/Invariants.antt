use Rattle.std.proofs.Common.{◌≡◌, ◌++◌}
use Rattle.vk_range.specs.Sets.{bit_parts}
use Rattle.vk_range.proofs.sets.push_parts.Given as goal

abbrev pub invariant-loop-i : goal.invariant-loop-i
invariant-loop-i l = l.values.items ≡ l.fn.values.items ++ bit_parts l.number l.i
