use Rattle.vk_range.specs.RangesLaws.{ranges_over}
use Rattle.vk_range.specs.RangedLaws.{over_values}
use Rattle.vk_range.proofs.ranged.ranged_values.Goals as goal

pub fill-requires-clause-fits : goal.fill-requires-clause-fits
fill-requires-clause-fits c =
    let inputs = c.args.inputs.now in
    rw c.in_ok-values.ensures (ranges_over c.args.ranges.now _
    (over_values inputs c.args.ranges.now c.requires.ranged))
