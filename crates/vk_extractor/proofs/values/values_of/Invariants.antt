use Rattle.std.proofs.Common.{◌≡◌, ℕ, List, take, true, false}
use Rattle.vk_row.specs.declared.case.LaneCase.{LaneCase}
use Rattle.vk_row.specs.Lanes.{IsAcceptedLane}
use Rattle.vk_row.specs.Rows.{sums}
use Rattle.vk_extractor.proofs.values.values_of.Given as goal

abbrev pub invariant-loop-wire : goal.invariant-loop-wire
invariant-loop-wire l =
    (case : LaneCase) (firsts seconds : List ℕ) → IsAcceptedLane l.plan case false l.zero firsts
    → IsAcceptedLane l.plan case true l.one seconds
    → l.values.items ≡ take l.wire (sums firsts seconds)
