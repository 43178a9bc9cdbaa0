-- What two accepted replies give behind a front, in the words of the values whose texts the files
-- are.
use Rattle.std.specs.Prelude.{◌≡◌, ℕ, ◌+◌, ◌-◌, List, [], ◌++◌, length, slice_get, slice_index_or, Some}
use Rattle.vk_lines.specs.Lines.{Rest}
use Rattle.vk_wire.specs.declared.wire.Shown.{Shown}
use Rattle.vk_row.specs.declared.case.LaneCase.{LaneCase}
use Rattle.vk_judge.specs.declared.stage.Base.{Base}
use Rattle.vk_judge.specs.declared.stage.TwoLane.{TwoLane}
use Rattle.vk_judge.specs.Statement.{StatementValue, IsStatement}
use Rattle.vk_judge.specs.Behind.{case_of}
use Rattle.vk_judge.specs.Begun.{from_start}
use Rattle.vk_judge.specs.Acceptance.{AcceptsBehind, bit_of, no_lines}
use Rattle.vk_judge.specs.Two.{Ahead, BothAreAccepted, accepted_of, ahead_behind, base_behind, base_in}

module _ {s : StatementValue} {front file : List ℕ} where
  -- all that is public of the lane of that number, from 1
  abbrev pub case_behind : {challenge reply : List ℕ} → AcceptsBehind s front file challenge reply
      → ℕ → LaneCase
  case_behind accepted number =
      case_of s number (slice_index_or accepted.lines (number - 1) no_lines)

  -- what the reply shows of it
  abbrev pub shown_behind : {challenge reply : List ℕ} → AcceptsBehind s front file challenge reply
      → ℕ → List Shown
  shown_behind accepted number = slice_index_or accepted.reply (number - 1) []

  -- the statement, and the bits of both challenges
  abbrev pub base_with : {first_challenge first_reply second_challenge second_reply : List ℕ}
      → AcceptsBehind s front file first_challenge first_reply
      → AcceptsBehind s front file second_challenge second_reply → Base
  base_with first second = record {
    statement = s;
    first_bits = first.challenge.bits;
    second_bits = second.challenge.bits;
  }

  -- the lane of that number, with what each reply shows of it for its challenge's bit
  abbrev pub two_lane_behind : {first_challenge first_reply second_challenge second_reply : List ℕ}
      → AcceptsBehind s front file first_challenge first_reply
      → AcceptsBehind s front file second_challenge second_reply → ℕ → TwoLane
  two_lane_behind first second number = record {
    case = case_behind first number;
    first_bit = bit_of first.challenge number;
    first = shown_behind first number;
    second_bit = bit_of second.challenge number;
    second = shown_behind second number;
  }

  -- what is given: the lanes 1, 2, .. of the file, and what is found by the challenges
  pub record GivesBehind {V : Type 0} {first_challenge first_reply second_challenge
      second_reply : List ℕ}
      (first : AcceptsBehind s front file first_challenge first_reply)
      (second : AcceptsBehind s front file second_challenge second_reply)
      (ahead : Ahead V) : Type 0 where
    pub one_each : length ahead.lanes ≡ s.lanes
    pub each : (index : ℕ) (lane : TwoLane) → slice_get ahead.lanes index ≡ Some lane
        → lane ≡ two_lane_behind first second (index + 1)
    pub finding : ahead.finding ≡ accepted_of first.challenge.bits second.challenge.bits

-- of every statement and every front, where the lines of the file are read on behind it: what two
-- accepted replies give is what stands in their files
abbrev pub AcceptedBehindGive : Type 0
AcceptedBehindGive = (s : StatementValue) → IsStatement s
    → (front file first_challenge first_reply second_challenge second_reply : List ℕ) (rest : Rest)
    → file ≡ front ++ rest.left
    → (first : AcceptsBehind s front file first_challenge first_reply)
    (second : AcceptsBehind s front file second_challenge second_reply)
    → (second.lines ≡ first.lines)
    × (base_in (base_behind s rest (from_start first_challenge) (from_start first_reply)
    (from_start second_challenge) (from_start second_reply)) ≡ Some (base_with first second))
    × GivesBehind first second
    (ahead_behind s rest (from_start first_challenge) (from_start first_reply)
    (from_start second_challenge) (from_start second_reply))

-- two replies are found to be accepted only where they are
abbrev pub OnlyAcceptedBehind : Type 0
OnlyAcceptedBehind = (s : StatementValue) → IsStatement s
    → (front file first_challenge first_reply second_challenge second_reply : List ℕ) (rest : Rest)
    → file ≡ front ++ rest.left
    → BothAreAccepted (ahead_behind s rest (from_start first_challenge) (from_start first_reply)
    (from_start second_challenge) (from_start second_reply)).finding
    → AcceptsBehind s front file first_challenge first_reply
    × AcceptsBehind s front file second_challenge second_reply
