use Rattle.std.proofs.Common.{◌≡◌}
use Rattle.vk_range.specs.Copies.{copies}
use Rattle.vk_range.proofs.copies.add_copies.Given as goal

abbrev pub invariant-loop-wire : goal.invariant-loop-wire
invariant-loop-wire l = l.plan ≡ copies l.inputs l.wire
