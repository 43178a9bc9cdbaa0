-- What the values that two replies open of a lane are: sums of halves that open its seals, and
-- inputs for which the circuit holds.
use Rattle.std.specs.Prelude.{◌≡◌, ℕ, ◌-◌, ◌≤◌, List, map, take, slice_get, slice_index_or, Some}
use Rattle.vk_residue.specs.Residue.{sum}
use Rattle.vk_commit.specs.Commitment.{Opens}
use Rattle.vk_commit.specs.declared.place.Place.{Place}
use Rattle.vk_plan.specs.Plans.{PlanValue, Holds}
use Rattle.vk_wire.specs.declared.wire.WireCom.{WireCom}
use Rattle.vk_wire.specs.declared.wire.Shown.{Shown}
use Rattle.vk_wire.specs.declared.wire.Shown.TheVariants.{Half}
use Rattle.vk_row.specs.declared.case.LaneCase.{LaneCase}
use Rattle.vk_row.specs.Lanes.{nothing_shown}
use Rattle.vk_board.specs.declared.board.SealLines.{SealLines}
use Rattle.vk_board.specs.declared.board.LaneLines.{LaneLines}
use Rattle.vk_board.specs.Reading.{seats_of}
use Rattle.vk_extractor.specs.Laws.{AreOfLane}
use Rattle.vk_extractor.specs.declared.lane.LaneErr.{LaneErr}
use Rattle.vk_extractor.specs.declared.lane.LaneErr.TheVariants.{Clash, NoMemory}
use Rattle.vk_judge.specs.Statement.{StatementValue}
use Rattle.vk_judge.specs.Behind.{case_of}
use Rattle.vk_bids.specs.declared.bids.LaneBids.{LaneBids}
use Rattle.vk_bids.specs.declared.bids.OpenedBid.{OpenedBid}

-- all that is public of the lane of that number, from 1, with some lines in the file
abbrev pub IsCaseOf : StatementValue → ℕ → LaneCase → Type 0
IsCaseOf s number case = (lines : LaneLines) × (case ≡ case_of s number lines)

-- where a commitment of a seal stands: its first at slot 0, its second at slot 1
abbrev pub seal_place : (auction : List ℕ) → (seat lane slot : ℕ) → Place
seal_place auction seat lane slot =
    record { auction = auction; seat = seat; lane = lane; slot = slot }

-- of these seals of an auction: the bid is the sum of two halves that open, in the lane of that
-- number from 1, the seal at that index from 0
pub record OpensSeal (auction : List ℕ) (seals : List SealLines) (number index : ℕ)
    (bid : OpenedBid) : Type 0 where
  pub numbered : 1 ≤ number
  pub seal : SealLines
  pub digests : WireCom
  pub on_board : slice_get seals index ≡ Some seal
  pub in_lane : slice_get seal.coms (number - 1) ≡ Some digests
  pub seat : bid.seat ≡ seal.seat
  pub first_opens : Opens (seal_place auction seal.seat number 0) digests.first bid.first
  pub second_opens : Opens (seal_place auction seal.seat number 1) digests.second bid.second
  pub is_sum : bid.bid ≡ sum bid.first.value bid.second.value

-- the openings of the bids, in the order of the seals, are those that are shown for bit 0 and for
-- bit 1
abbrev pub AreShownIn : List Shown → List Shown → List OpenedBid → Type 0
AreShownIn zero one bids =
    (index : ℕ) (bid : OpenedBid) → slice_get bids index ≡ Some bid
    → (slice_index_or zero index nothing_shown ≡ Half bid.first)
    × (slice_index_or one index nothing_shown ≡ Half bid.second)

-- there is one value for each seal, it is the sum of two halves that open the seal in the lane of
-- that number, and there are values of all wires that hold for the circuit, of which these are the
-- inputs'
pub record OpensValues (s : StatementValue) (number : ℕ) (bids : List OpenedBid) : Type 0 where
  pub one_each : map (λ bid. bid.seat) bids ≡ seats_of s.seals
  pub opened : (index : ℕ) (bid : OpenedBid) → slice_get bids index ≡ Some bid
      → OpensSeal s.auction s.seals number index bid
  pub values : List ℕ
  pub holds : Holds s.plan values
  pub inputs : take s.plan.inputs values ≡ map (λ bid. bid.bid) bids

-- the values of the lane do
abbrev pub LaneOpens : StatementValue → LaneBids → Type 0
LaneOpens s lane = OpensValues s lane.number lane.bids

-- a clash is two openings of one entry of the lane, with different values; want of memory says
-- nothing
abbrev pub OpensTwice : LaneErr → PlanValue → LaneCase → Type 0
OpensTwice (Clash two) plan case = AreOfLane plan case two
OpensTwice NoMemory plan case = Unit {0}
