use Rattle.std.proofs.Common.{◌≡◌}
use Rattle.vk_range.specs.RangesLaws.{ranges_stage}
use Rattle.vk_range.proofs.ranges.RangesRelation.add.Given as goal

abbrev pub invariant-loop-form : goal.invariant-loop-form
invariant-loop-form l = l.plan ≡ ranges_stage l.self l.fn.plan l.form-index
