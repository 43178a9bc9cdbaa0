-- The law of extraction.
use Rattle.std.specs.Prelude.{◌≡◌, ◌↔◌, ◌<◌, ℕ, Bool, false, true, List, length, slice_index_or, Some, None}
use Rattle.vk_commit.specs.Commitment.{TwoOpeningsSeen, AreTwoOpenings}
use Rattle.vk_plan.specs.Plans.{PlanValue, IsPlan, Holds}
use Rattle.vk_wire.specs.declared.wire.Shown.{Shown}
use Rattle.vk_row.specs.declared.case.LaneCase.{LaneCase}
use Rattle.vk_wire.specs.Places.{entry_place}
use Rattle.vk_wire.specs.Reads.{entry_digest}
use Rattle.vk_row.specs.Lanes.{IsAcceptedLane, place_in, no_digests}
use Rattle.vk_row.specs.Rows.{sums}
use Rattle.vk_extractor.specs.Clash.{clash_of_lane}
use Rattle.vk_extractor.specs.FirstClash.{IsFirstClash, WireAgrees}

-- for every plan: where no entry is opened to two values, the sums of accepted halves hold for it
abbrev pub ExtractedHold : Type 0
ExtractedHold =
    (plan : PlanValue) (case : LaneCase) (zero one : List Shown) (firsts seconds : List ℕ)
    → IsPlan plan
    → IsAcceptedLane plan case false zero firsts → IsAcceptedLane plan case true one seconds
    → clash_of_lane case zero one ≡ None → Holds plan (sums firsts seconds)

-- two openings of an entry of a wire of the lane: they open its digest at its place, and their
-- values differ
pub record AreOfLane (plan : PlanValue) (case : LaneCase) (two : TwoOpeningsSeen) : Type 0 where
  pub wire : ℕ
  pub second : Bool
  pub within : wire < length plan.kinds
  pub place : two.place ≡ entry_place (place_in case wire) second
  pub digest : two.digest ≡ entry_digest (slice_index_or case.coms wire no_digests) second
  pub openings : AreTwoOpenings two.place two.digest two.first two.second

-- for every plan: what is found in a lane that was accepted for both bits are two openings of one
-- entry of it
abbrev pub ClashesOpen : Type 0
ClashesOpen =
    (plan : PlanValue) (case : LaneCase) (zero one : List Shown) (firsts seconds : List ℕ)
    (two : TwoOpeningsSeen)
    → IsAcceptedLane plan case false zero firsts → IsAcceptedLane plan case true one seconds
    → clash_of_lane case zero one ≡ Some two → AreOfLane plan case two

-- for every lane: what is computed is its first clash, and it has none where every spent entry
-- agrees with the same entry opened whole
abbrev pub ClashIsFirst : Type 0
ClashIsFirst =
    (case : LaneCase) (zero one : List Shown)
    → ((two : TwoOpeningsSeen) → (clash_of_lane case zero one ≡ Some two)
    ↔ ((wire : ℕ) × IsFirstClash case zero one wire two))
    × ((clash_of_lane case zero one ≡ None)
    ↔ ((wire : ℕ) → wire < length case.coms → WireAgrees zero one wire))
