-- The parts of what is judged behind a front, each by itself, so that two replies can be judged
-- side by side.
use Rattle.std.specs.Prelude.{◌≡◌, ℕ, ◌+◌, ◌≤◌, Bool, List, length, drop, Result, Ok}
use Rattle.vk_residue.specs.Steps.{◌>>=◌}
use Rattle.vk_lines.specs.Lines.{Rest}
use Rattle.vk_plan.specs.Plans.{PlanValue}
use Rattle.vk_wire.specs.declared.wire.Shown.{Shown}
use Rattle.vk_row.specs.declared.case.LaneCase.{LaneCase}
use Rattle.vk_row.specs.Lanes.{HasCounts}
use Rattle.vk_row.specs.LaneTests.{checked_lane}
use Rattle.vk_board.specs.declared.board.LaneLines.{LaneLines}
use Rattle.vk_board.specs.Values.{IsLaneLines}
use Rattle.vk_board.specs.Reading.{lane_at}
use Rattle.vk_reply.specs.Reading.{challenge_at, reply_head_at, reply_lane_at}
use Rattle.vk_judge.specs.declared.answers.Part.TheVariants as part
use Rattle.vk_judge.specs.declared.answers.Fault.{Fault}
use Rattle.vk_judge.specs.declared.stage.LanesLeft.{LanesLeft}
use Rattle.vk_judge.specs.Statement.{StatementValue}
use Rattle.vk_judge.specs.Behind.{in_part, later_wires, case_of, lane_fault, lanes_judged, counted, ends_judged}

-- all that is public of the lane of that number
unfoldable pub case_at : StatementValue → ℕ → Rest → Result (LaneCase × Rest) Fault
case_at s number file = do
  lines ← in_part part.Board (lane_at number (later_wires s.plan) (length s.plan.rows) file)
  Ok (case_of s number lines.0, lines.1)

-- what a reply shows of the lane for the bit, where it is accepted
unfoldable pub reply_judged : PlanValue → LaneCase → ℕ → Bool → Rest
    → Result (List Shown × Rest) Fault
reply_judged plan case number bit reply = do
  shown ← in_part part.Reply (reply_lane_at number plan.kinds bit reply)
  done ← lane_fault number (checked_lane plan case bit shown.0)
  Ok (shown.0, shown.1)

-- the bits of a challenge, one for each of so many lanes, and the reply to it from its first lane
-- on
unfoldable pub attempt_at : ℕ → Rest → Rest → Result (List Bool × Rest) Fault
attempt_at lanes challenge reply = do
  bits ← in_part part.Challenge (challenge_at challenge)
  replies ← in_part part.Reply (reply_head_at reply)
  same ← counted lanes bits.0 replies.0
  Ok (bits.0.bits, replies.1)

-- one lane for each bit, the first of them with that number, and then the ends
unfoldable pub rest_judged : StatementValue → ℕ → List Bool → Rest → Rest → Result Unit Fault
rest_judged s number bits file reply = do
  rests ← lanes_judged s number bits file reply
  ends_judged rests.0 rests.1

-- the lanes that are left of the statement, with a bit of the challenge for each of its lanes
pub record AreLeft (left : LanesLeft) : Type 0 where
  pub bits : length left.bits.now ≡ left.statement.now.lanes
  pub within : left.judged ≤ left.statement.now.lanes

abbrev pub rest_left : LanesLeft → Rest → Rest → Result Unit Fault
rest_left left = rest_judged left.statement.now (left.judged + 1) (drop left.judged left.bits.now)

-- the tests in their order, part by part
unfoldable pub behind_in_parts : StatementValue → Rest → Rest → Rest → Result Unit Fault
behind_in_parts s file challenge reply = do
  attempt ← attempt_at s.lanes challenge reply
  rest_judged s 1 attempt.0 file attempt.1

-- the case of the lane of that number, by lines that stand in the file
pub record IsLaneCase (s : StatementValue) (number : ℕ) (case : LaneCase) : Type 0 where
  pub lines : LaneLines
  pub right : IsLaneLines (later_wires s.plan) (length s.plan.rows) lines
  pub is : case ≡ case_of s number lines

-- the counts of the case are those of the plan
abbrev pub Fits : PlanValue → LaneCase → Type 0
Fits plan case = (shown : List Shown) → length shown ≡ length plan.kinds → HasCounts plan case shown
