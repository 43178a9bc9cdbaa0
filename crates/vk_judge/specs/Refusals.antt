-- Why files are refused, in the words of their texts and values, behind a front with some text.
use Rattle.std.specs.Prelude.{◌≡◌, ◌↔◌, ◌⊎◌, ℕ, ◌+◌, ◌<◌, ◌≤◌, List, ◌++◌, length, slice_get, Some, Result, Ok, Err}
use Rattle.vk_residue.specs.Limits.{IsLaneCount}
use Rattle.vk_residue.specs.Steps.{◌>>=◌}
use Rattle.vk_lines.specs.Lines.{Rest, end_at}
use Rattle.vk_lines.specs.Forms.{fault_line, many_at, numbered_text}
use Rattle.vk_wire.specs.declared.wire.Shown.{Shown}
use Rattle.vk_row.specs.declared.case.LaneFault.{LaneFault}
use Rattle.vk_row.specs.declared.case.LaneFault.TheVariants as faults
use Rattle.vk_row.specs.Lanes.{HasLaneFault}
use Rattle.vk_board.specs.declared.board.LaneLines.{LaneLines}
use Rattle.vk_board.specs.Values.{IsLaneLines}
use Rattle.vk_board.specs.Texts.{lane_text, lanes_text}
use Rattle.vk_board.specs.Reading.{lane_at}
use Rattle.vk_reply.specs.declared.challenge.Challenge.{Challenge}
use Rattle.vk_reply.specs.Values.{IsChallenge, AreShown}
use Rattle.vk_reply.specs.Texts.{challenge_text, reply_head_text, reply_lane_text, reply_text}
use Rattle.vk_reply.specs.Tables.{challenge_table, reply_table}
use Rattle.vk_judge.specs.declared.answers.Part.TheVariants as part
use Rattle.vk_judge.specs.declared.answers.Fault.{Fault}
use Rattle.vk_judge.specs.declared.answers.Fault.TheVariants as behind
use Rattle.vk_judge.specs.Statement.{StatementValue, IsStatement}
use Rattle.vk_judge.specs.Behind.{later_wires, case_of, behind_judged}
use Rattle.vk_judge.specs.Begun.{from_start}
use Rattle.vk_judge.specs.Acceptance.{AcceptsBehind, AreLanes, LaneIsAccepted, file_text, bit_of}

abbrev pub BeginsWith : List ℕ → List ℕ → Type 0
BeginsWith bytes text = (more : List ℕ) × (bytes ≡ text ++ more)

-- the file is the text of the challenge
pub record IsOfChallenge (challenge_file : List ℕ) (challenge : Challenge) : Type 0 where
  pub right : IsChallenge challenge
  pub text : challenge_file ≡ challenge_text challenge

-- the reply begins with the lines that say so many lanes
pub record HasCount (reply_file : List ℕ) (lanes : ℕ) : Type 0 where
  pub count : IsLaneCount lanes
  pub begins : BeginsWith reply_file (reply_head_text lanes)

-- ---- lanes that stand in both files, behind a front with this text

-- what is shown of these lanes, from lane 1 on, has the form of what is shown for the challenge's
-- bits
abbrev pub AreShownFor : StatementValue → Challenge → List (List Shown) → Type 0
AreShownFor s challenge reply = (index : ℕ) (shown : List Shown)
    → slice_get reply index ≡ Some shown
    → AreShown s.plan.kinds (bit_of challenge (index + 1)) shown

-- the text of the file, and of a reply to it of so many lanes, to the end of these lanes
abbrev pub front_and_lanes : List ℕ → List LaneLines → List ℕ
front_and_lanes front lines = front ++ lanes_text 1 lines

abbrev pub count_and_lanes : ℕ → List (List Shown) → List ℕ
count_and_lanes lanes reply = reply_head_text lanes ++ numbered_text reply_lane_text 1 reply

-- the files begin with so many lanes, whose challenge and numbers are right, and these are accepted
pub record LanesPass (s : StatementValue) (front : List ℕ) (file challenge_file reply_file : List ℕ)
    (lanes : ℕ) : Type 0 where
  pub lines : List LaneLines
  pub challenge : Challenge
  pub reply : List (List Shown)
  pub is_challenge : IsOfChallenge challenge_file challenge
  pub one_bit_each : length challenge.bits ≡ s.lanes
  pub within : lanes ≤ s.lanes
  pub lines_to : length lines ≡ lanes
  pub shown_to : length reply ≡ lanes
  pub right : AreLanes s lines
  pub shown : AreShownFor s challenge reply
  pub file_begins : BeginsWith file (front_and_lanes front lines)
  pub reply_begins : BeginsWith reply_file (count_and_lanes s.lanes reply)
  pub accepted : (lane : ℕ) → 1 ≤ lane → lane ≤ lanes → LaneIsAccepted s lines challenge reply lane

-- after these lanes the file goes on with these lines of the next
pub record FileGoesOn (s : StatementValue) (front : List ℕ) (file : List ℕ) (lines : List LaneLines)
    (next : LaneLines) : Type 0 where
  pub right : IsLaneLines (later_wires s.plan) (length s.plan.rows) next
  pub begins : BeginsWith file (front_and_lanes front lines ++ lane_text (length lines + 1) next)

-- after the lanes of this reply the file goes on with this of the next
pub record ReplyGoesOn (s : StatementValue) (reply_file : List ℕ) (challenge : Challenge)
    (reply : List (List Shown)) (shown : List Shown) : Type 0 where
  pub right : AreShown s.plan.kinds (bit_of challenge (length reply + 1)) shown
  pub begins : BeginsWith reply_file
      (count_and_lanes s.lanes reply ++ reply_lane_text (length reply + 1) shown)

-- ---- a lane

-- so many lanes pass, the next one stands in both files, and what is shown of it has that fault,
-- its first
pub record LaneFails (s : StatementValue) (front : List ℕ) (file challenge_file reply_file : List ℕ)
    (lane : ℕ) (fault : LaneFault) : Type 0 where
  pub lanes : ℕ
  pub is_next : lane ≡ lanes + 1
  pub before : LanesPass s front file challenge_file reply_file lanes
  pub within : lane ≤ s.lanes
  pub next : LaneLines
  pub shown : List Shown
  pub in_file : FileGoesOn s front file before.lines next
  pub in_reply : ReplyGoesOn s reply_file before.challenge before.reply shown
  pub has_fault : HasLaneFault s.plan (case_of s lane next) (bit_of before.challenge lane) shown
      fault

-- ---- the numbers of lanes

-- the challenge and the head of the reply are right, and they don't say the statement's number of
-- lanes
pub record LanesFail (s : StatementValue) (challenge_file reply_file : List ℕ) : Type 0 where
  pub challenge : Challenge
  pub replies : ℕ
  pub is_challenge : IsOfChallenge challenge_file challenge
  pub has_count : HasCount reply_file replies
  pub differ : ¬ ((length challenge.bits ≡ s.lanes) × (replies ≡ s.lanes))

-- ---- the form of a file

-- the file stops being right after lanes that pass: the next one's lines aren't there, or, after
-- the last, the end
pub record FileStops (s : StatementValue) (front : List ℕ)
    (file challenge_file reply_file : List ℕ) : Type 0 where
  pub lanes : ℕ
  pub before : LanesPass s front file challenge_file reply_file lanes
  pub lane : lanes < s.lanes → (next : LaneLines) → ¬ FileGoesOn s front file before.lines next
  pub over : lanes ≡ s.lanes → ¬ (file ≡ file_text front before.lines)

-- the reply stops being right after lanes that pass, where the file goes on, or is over and right
pub record ReplyStops (s : StatementValue) (front : List ℕ)
    (file challenge_file reply_file : List ℕ) : Type 0 where
  pub lanes : ℕ
  pub before : LanesPass s front file challenge_file reply_file lanes
  pub lane : lanes < s.lanes → ((next : LaneLines) × FileGoesOn s front file before.lines next)
      × ((shown : List Shown) → ¬ ReplyGoesOn s reply_file before.challenge before.reply shown)
  pub over : lanes ≡ s.lanes → (file ≡ file_text front before.lines)
      × ¬ (reply_file ≡ reply_text before.reply)

-- the challenge is right, and the reply has that fault line, for the statement's wires and the
-- challenge's bits: it has no head, or stops after lanes that pass
pub record ReplyFails (s : StatementValue) (front : List ℕ)
    (file challenge_file reply_file : List ℕ) (line : ℕ) : Type 0 where
  pub challenge : Challenge
  pub is_challenge : IsOfChallenge challenge_file challenge
  pub fault : fault_line (reply_table s.plan.kinds (bit_of challenge)) reply_file ≡ Some line
  pub place : ((lanes : ℕ) → ¬ HasCount reply_file lanes)
      ⊎ ReplyStops s front file challenge_file reply_file

-- ---- every fault behind a front

-- what is read of the file behind its front: the lines of all lanes, and its end
abbrev pub lanes_and_end_at : StatementValue → Rest → Result (List LaneLines × Rest) ℕ
lanes_and_end_at s rest =
    many_at s.lanes (λ before. lane_at (length before + 1) (later_wires s.plan)
    (length s.plan.rows)) rest >>= λ lanes.
    end_at lanes.1 >>= λ over.
    Ok (lanes.0, over.1)

-- the fault holds of files whose front has this text. Which line is the fault line of the first
-- file is told by its form
abbrev pub FaultHolds : StatementValue → List ℕ → (ℕ → Type 0) → Fault → List ℕ → List ℕ → List ℕ
    → Type 0
FaultHolds s front IsFaultLine (behind.Malformed part.Board line) file challenge reply =
    IsFaultLine line × FileStops s front file challenge reply
FaultHolds s front IsFaultLine (behind.Malformed part.Challenge line) file challenge reply =
    fault_line challenge_table challenge ≡ Some line
FaultHolds s front IsFaultLine (behind.Malformed part.Reply line) file challenge reply =
    ReplyFails s front file challenge reply line
FaultHolds s front IsFaultLine (behind.Malformed part.SecondChallenge line) file challenge reply = ⊥
FaultHolds s front IsFaultLine (behind.Malformed part.SecondReply line) file challenge reply = ⊥
FaultHolds s front IsFaultLine behind.Lanes file challenge reply = LanesFail s challenge reply
FaultHolds s front IsFaultLine (behind.Wire lane wire fault) file challenge reply =
    LaneFails s front file challenge reply lane (faults.Wire wire fault)
FaultHolds s front IsFaultLine (behind.Row lane row) file challenge reply =
    LaneFails s front file challenge reply lane (faults.Row row)

-- of every statement and every front, where the lines of the file are read on behind it: the tests
-- are passed exactly where the reply is accepted, and each fault is found exactly where it holds
abbrev pub BehindIsExact : Type 0
BehindIsExact = (s : StatementValue) → IsStatement s
    → (front file challenge reply : List ℕ) (rest : Rest) → file ≡ front ++ rest.left
    → ((behind_judged s rest (from_start challenge) (from_start reply) ≡ Ok tt)
    ↔ AcceptsBehind s front file challenge reply)
    × ((fault : Fault) → (behind_judged s rest (from_start challenge) (from_start reply)
    ≡ Err fault)
    ↔ FaultHolds s front (λ line. lanes_and_end_at s rest ≡ Err line) fault file challenge reply)
