-- The law of all lanes.
use Rattle.std.specs.Prelude.{◌≡◌, ◌↔◌, ℕ, Bool, List, Ok, Err}
use Rattle.vk_plan.specs.Plans.{PlanValue, IsPlan}
use Rattle.vk_wire.specs.declared.wire.Shown.{Shown}
use Rattle.vk_row.specs.declared.case.LaneCase.{LaneCase}
use Rattle.vk_row.specs.declared.case.LaneFault.{LaneFault}
use Rattle.vk_row.specs.Lanes.{HasCounts, IsAcceptedLane, HasLaneFault}
use Rattle.vk_row.specs.LaneTests.{checked_lane}

-- the computed halves are those of an accepted lane, and the computed fault is the first one
abbrev pub LaneComputes : Type 0
LaneComputes =
    (plan : PlanValue) (case : LaneCase) (bit : Bool) (shown : List Shown) → IsPlan plan
    → HasCounts plan case shown
    → ((halves : List ℕ) → (checked_lane plan case bit shown ≡ Ok halves)
    ↔ IsAcceptedLane plan case bit shown halves)
    × ((fault : LaneFault) → (checked_lane plan case bit shown ≡ Err fault)
    ↔ HasLaneFault plan case bit shown fault)
