use Rattle.std.proofs.Common.{◌≡◌, replicate}
use Rattle.vk_plan.specs.declared.wire.WireKind.TheVariants.{Split}
use Rattle.vk_plan.proofs.plan.Plan.new.Given as goal

abbrev pub invariant-loop-input : goal.invariant-loop-input
invariant-loop-input l = l.kinds.items ≡ replicate l._input Split
