-- When a reply is accepted, by whole texts, behind a front with some text.
use Rattle.std.specs.Prelude.{◌≡◌, ℕ, ◌-◌, ◌≤◌, Bool, false, List, [], ◌++◌, codes, length, slice_index_or}
use Rattle.std.specs.List.{AllByRecursion}
use Rattle.vk_lines.specs.Forms.{line}
use Rattle.vk_wire.specs.declared.wire.Shown.{Shown}
use Rattle.vk_row.specs.Lanes.{IsAccepted}
use Rattle.vk_board.specs.declared.board.LaneLines.{LaneLines}
use Rattle.vk_board.specs.Values.{IsLaneLines}
use Rattle.vk_board.specs.Texts.{lanes_text}
use Rattle.vk_reply.specs.declared.challenge.Challenge.{Challenge}
use Rattle.vk_reply.specs.Values.{IsChallenge, IsReply}
use Rattle.vk_reply.specs.Texts.{challenge_text, reply_text}
use Rattle.vk_judge.specs.Statement.{StatementValue}
use Rattle.vk_judge.specs.Behind.{later_wires, case_of}

-- the bit of the lane, counted from 1
abbrev pub bit_of : Challenge → ℕ → Bool
bit_of challenge lane = slice_index_or challenge.bits (lane - 1) false

-- what a file has past its last lane
abbrev pub no_lines : LaneLines
no_lines = record { coms = []; posted = [] }

-- these are lines of lanes of the statement's circuit
abbrev pub AreLanes : StatementValue → List LaneLines → Type 0
AreLanes s lines = AllByRecursion (IsLaneLines (later_wires s.plan) (length s.plan.rows)) lines

-- what is shown of the lane, counted from 1, is accepted for its bit
abbrev pub LaneIsAccepted : StatementValue → List LaneLines → Challenge → List (List Shown) → ℕ
    → Type 0
LaneIsAccepted s lines challenge reply lane =
    IsAccepted s.plan (case_of s lane (slice_index_or lines (lane - 1) no_lines))
    (bit_of challenge lane) (slice_index_or reply (lane - 1) [])

-- a file with this text of its front, these lanes, and the end
abbrev pub file_text : List ℕ → List LaneLines → List ℕ
file_text front lines = front ++ (lanes_text 1 lines ++ line (codes "end"))

-- behind a front with this text: the files are the texts of lanes, of a challenge and of a reply,
-- as many as the statement says, and in each lane what is shown is accepted for its bit
pub record AcceptsBehind (s : StatementValue) (front : List ℕ)
    (file challenge_file reply_file : List ℕ) : Type 0 where
  pub lines : List LaneLines
  pub challenge : Challenge
  pub reply : List (List Shown)
  pub file_is : (file ≡ file_text front lines) × AreLanes s lines
  pub challenge_is : (challenge_file ≡ challenge_text challenge) × IsChallenge challenge
  pub reply_is : (reply_file ≡ reply_text reply) × IsReply s.plan.kinds (bit_of challenge) reply
  pub one_each : length lines ≡ s.lanes
  pub one_bit_each : length challenge.bits ≡ s.lanes
  pub one_reply_each : length reply ≡ s.lanes
  pub lanes : (lane : ℕ) → 1 ≤ lane → lane ≤ s.lanes → LaneIsAccepted s lines challenge reply lane
