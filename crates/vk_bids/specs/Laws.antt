-- The laws of lanes that are accepted for both bits.
use Rattle.std.specs.Prelude.{◌≡◌, ℕ, ◌≤◌, false, true, List, Some, None}
use Rattle.vk_commit.specs.Commitment.{TwoOpeningsSeen}
use Rattle.vk_wire.specs.declared.wire.Shown.{Shown}
use Rattle.vk_row.specs.Lanes.{IsAccepted}
use Rattle.vk_board.specs.declared.board.LaneLines.{LaneLines}
use Rattle.vk_board.specs.declared.front.Front.{Front}
use Rattle.vk_board.specs.Fronts.{IsFront}
use Rattle.vk_board.specs.Reading.{seats_of}
use Rattle.vk_extractor.specs.Clash.{clash_of_lane}
use Rattle.vk_extractor.specs.Laws.{AreOfLane}
use Rattle.vk_judge.specs.Statement.{StatementValue, IsStatement}
use Rattle.vk_judge.specs.Behind.{case_of}
use Rattle.vk_verifier.specs.Verdicts.{statement_of}
use Rattle.vk_bids.specs.declared.bids.OpenedBid.{OpenedBid}
use Rattle.vk_bids.specs.Bids.{opened_bids}
use Rattle.vk_bids.specs.Opening.{OpensValues}
use Rattle.vk_bids.specs.Outcome.{ShowsOutcome}

-- what is shown of the lane of that number, from 1, is accepted for bit 0 and for bit 1
pub record BothAccepted (s : StatementValue) (number : ℕ) (lines : LaneLines)
    (zero one : List Shown) : Type 0 where
  pub some_lane : 1 ≤ number
  pub within : number ≤ s.lanes
  pub for_zero : IsAccepted s.plan (case_of s number lines) false zero
  pub for_one : IsAccepted s.plan (case_of s number lines) true one

-- what is shown opens such values, where no entry is opened to two; where one is, the first such
-- has two openings with different values
abbrev pub OpensOrClashes : StatementValue → ℕ → LaneLines → List Shown → List Shown
    → (List OpenedBid → Type 0) → Type 0
OpensOrClashes s number lines zero one AreSuch =
    (clash_of_lane (case_of s number lines) zero one ≡ None
    → AreSuch (opened_bids (seats_of s.seals) zero one))
    × ((two : TwoOpeningsSeen) → clash_of_lane (case_of s number lines) zero one ≡ Some two
    → AreOfLane s.plan (case_of s number lines) two)

-- of every statement: the values that are opened open the seals, and are inputs for which its
-- circuit holds
abbrev pub AcceptedLanesOpen : Type 0
AcceptedLanesOpen =
    (s : StatementValue) → IsStatement s → (number : ℕ) (lines : LaneLines) (zero one : List Shown)
    → BothAccepted s number lines zero one
    → OpensOrClashes s number lines zero one (OpensValues s number)

-- of every board, whatever its version: the bids that are opened show the published sale
abbrev pub AcceptedLanesShow : Type 0
AcceptedLanesShow =
    (front : Front) → IsFront front → (number : ℕ) (lines : LaneLines) (zero one : List Shown)
    → BothAccepted (statement_of front) number lines zero one
    → OpensOrClashes (statement_of front) number lines zero one (ShowsOutcome front number)
