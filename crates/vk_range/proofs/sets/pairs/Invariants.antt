use Rattle.std.proofs.Common.{◌≡◌}
use Rattle.vk_range.specs.Sets.{test_set}
use Rattle.vk_range.proofs.sets.pairs.Given as goal

abbrev pub invariant-loop-i : goal.invariant-loop-i
invariant-loop-i l = l.kinds.items ≡ test_set l.i
