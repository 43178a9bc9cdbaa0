-- What it is to accept what is shown of a lane, and why it may be refused.
use Rattle.std.specs.Prelude.{◌≡◌, ◌<◌, ℕ, Bool, List, [], length, slice_index, slice_index_or}
use Rattle.vk_commit.specs.declared.place.Place.{Place}
use Rattle.vk_plan.specs.Forms.{no_row}
use Rattle.vk_plan.specs.Plans.{PlanValue}
use Rattle.vk_plan.specs.declared.wire.WireKind.{WireKind}
use Rattle.vk_plan.specs.declared.wire.WireKind.TheVariants.{Split}
use Rattle.vk_wire.specs.Places.{place_of_wire}
use Rattle.vk_wire.specs.Reads.{Reads, HasFault}
use Rattle.vk_wire.specs.declared.wire.WireCom.{WireCom}
use Rattle.vk_wire.specs.declared.wire.Opened.{Opened}
use Rattle.vk_wire.specs.declared.wire.Shown.{Shown}
use Rattle.vk_wire.specs.declared.wire.Shown.TheVariants.{Half}
use Rattle.vk_wire.specs.declared.wire.WireFault.{WireFault}
use Rattle.vk_row.specs.declared.case.LaneCase.{LaneCase}
use Rattle.vk_row.specs.declared.case.LaneFault.{LaneFault}
use Rattle.vk_row.specs.declared.case.LaneFault.TheVariants.{Wire, Row, NoMemory}
use Rattle.vk_row.specs.Rows.{HasSide}

-- what a list has past its end
abbrev pub no_digests : WireCom
no_digests = record { first = []; second = [] }

abbrev pub nothing_shown : Shown
nothing_shown = Half (record { key = []; value = 0 })

abbrev pub nothing_opened : Opened
nothing_opened = record { first = []; last = [] }

-- one seat for each input, one posted number for each row, and one pair of commitments and one
-- shown for each wire
pub record HasCounts (plan : PlanValue) (case : LaneCase) (shown : List Shown) : Type 0 where
  pub seats : length case.seats ≡ plan.inputs
  pub coms : length case.coms ≡ length plan.kinds
  pub posted : length case.posted ≡ length plan.rows
  pub one_shown : length shown ≡ length plan.kinds

-- where the first commitment of a wire of the lane stands
abbrev pub place_in : LaneCase → ℕ → Place
place_in case wire = place_of_wire case.auction case.lane case.seats wire

-- what is said of a shown wire is said of this wire of the lane: that it gives a half for the bit, or
-- that it has a fault
abbrev pub OfWire : {X : Type 0} → (WireKind → Place → WireCom → Shown → Bool → X → Type 0)
    → PlanValue → LaneCase → Bool → List Shown → ℕ → X → Type 0
OfWire Says plan case bit shown wire x =
    Says (slice_index_or plan.kinds wire Split) (place_in case wire)
    (slice_index_or case.coms wire no_digests)
    (slice_index_or shown wire nothing_shown) bit x

-- the halves meet the row of the lane
abbrev pub RowHolds : PlanValue → LaneCase → Bool → List ℕ → ℕ → Type 0
RowHolds plan case bit halves row =
    HasSide (slice_index_or plan.rows row no_row) bit halves (slice_index case.posted row)

-- each wire gives its half
pub record AreHalves (plan : PlanValue) (case : LaneCase) (bit : Bool) (shown : List Shown)
    (halves : List ℕ) : Type 0 where
  pub one_each : length halves ≡ length plan.kinds
  pub each : (wire : ℕ) → wire < length plan.kinds
      → OfWire Reads plan case bit shown wire (slice_index halves wire)

-- what is shown of the lane is accepted for the bit with these halves
pub record IsAcceptedLane (plan : PlanValue) (case : LaneCase) (bit : Bool) (shown : List Shown)
    (halves : List ℕ) : Type 0 where
  pub counts : HasCounts plan case shown
  pub wires : AreHalves plan case bit shown halves
  pub rows : (row : ℕ) → row < length plan.rows → RowHolds plan case bit halves row

-- what is shown of the lane is accepted for the bit
abbrev pub IsAccepted : PlanValue → LaneCase → Bool → List Shown → Type 0
IsAccepted plan case bit shown = (halves : List ℕ) × IsAcceptedLane plan case bit shown halves

-- the wire is the first that reads nothing, and why
pub record IsFirstWire (plan : PlanValue) (case : LaneCase) (bit : Bool) (shown : List Shown)
    (wire : ℕ) (fault : WireFault) : Type 0 where
  pub within : wire < length plan.kinds
  pub before : (w : ℕ) → w < wire → (half : ℕ) × OfWire Reads plan case bit shown w half
  pub faulty : OfWire HasFault plan case bit shown wire fault

-- each wire gives its half, and the row is the first that these don't meet
pub record IsFirstRow (plan : PlanValue) (case : LaneCase) (bit : Bool) (shown : List Shown)
    (halves : List ℕ) (row : ℕ) : Type 0 where
  pub wires : AreHalves plan case bit shown halves
  pub within : row < length plan.rows
  pub before : (r : ℕ) → r < row → RowHolds plan case bit halves r
  pub broken : ¬ RowHolds plan case bit halves row

-- why what is shown of the lane is refused
abbrev pub HasLaneFault : PlanValue → LaneCase → Bool → List Shown → LaneFault → Type 0
HasLaneFault plan case bit shown (Wire wire fault) = IsFirstWire plan case bit shown wire fault
HasLaneFault plan case bit shown (Row row) = (halves : List ℕ)
    × IsFirstRow plan case bit shown halves row
HasLaneFault plan case bit shown NoMemory = ⊥
