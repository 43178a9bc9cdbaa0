use Rattle.std.proofs.Common.{◌≡◌}
use Rattle.vk_plan.specs.declared.wire.WireKind.TheVariants.{Pair}
use Rattle.vk_range.specs.Sets.{listed}
use Rattle.vk_range.proofs.selected.selector_wires.Given as goal

abbrev pub invariant-loop-place : goal.invariant-loop-place
invariant-loop-place l = l.kinds.items ≡ listed (λ _. Pair 0) l._place
