-- The sums of the halves of a lane.
use Rattle.std.specs.Prelude.{◌≡◌, ℕ, false, true, List}
use Rattle.vk_plan.specs.Plans.{PlanValue}
use Rattle.vk_wire.specs.declared.wire.Shown.{Shown}
use Rattle.vk_row.specs.declared.case.LaneCase.{LaneCase}
use Rattle.vk_row.specs.Rows.{sums}
use Rattle.vk_row.specs.Lanes.{IsAcceptedLane}

-- the values are the sums of the halves that are accepted for bit 0 and for bit 1
abbrev pub AreSums : PlanValue → LaneCase → List Shown → List Shown → List ℕ → Type 0
AreSums plan case zero one values =
    (firsts seconds : List ℕ) → IsAcceptedLane plan case false zero firsts
    → IsAcceptedLane plan case true one seconds → values ≡ sums firsts seconds
