use Rattle.std.proofs.Common.{◌≡◌, drop}
use Rattle.vk_row.specs.LaneTests.{first_false_row}
use Rattle.vk_row.proofs.lane.first_unmet_row.Given as goal

abbrev pub invariant-loop-row : goal.invariant-loop-row
invariant-loop-row l =
    first_false_row l.bit l.halves l.row (drop l.row l.plan.rows) (drop l.row l.case.posted)
    ≡ first_false_row l.bit l.halves 0 l.plan.rows l.case.posted
