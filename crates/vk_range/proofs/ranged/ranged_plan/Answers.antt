use Rattle.vk_range.specs.RangedLaws.{over_copies, ranged_is_plan}
use Rattle.vk_range.proofs.ranged.ranged_plan.Goals as goal

pub add-requires-clause-fits : goal.add-requires-clause-fits
add-requires-clause-fits c = rw c.in_ok-add_copies.ensures.added
    (over_copies c.args.inputs c.args.ranges.now c.requires)

pub add-requires-clause-room : goal.add-requires-clause-room
add-requires-clause-room c = rw c.in_ok-add_copies.ensures.added
    (ranged_is_plan c.args.inputs c.args.ranges.now c.requires)
