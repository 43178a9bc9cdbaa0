-- What is judged behind a front, for any statement: the challenge, the reply's head, the lanes and
-- the ends, up to the first test that fails.
use Rattle.std.specs.Prelude.{◌≡◌, ℕ, ◌+◌, ◌-◌, ◌==◌, ◌&&◌, Bool, if◌then◌else◌, List, [], ◌∷◌, ◌++◌, length, map, slice_index_or, Option, IfSome, Result, Ok, Err}
use Rattle.vk_residue.specs.Steps.{◌>>=◌}
use Rattle.vk_io.specs.Files.{Files}
use Rattle.vk_lines.specs.Lines.{Rest, end_at}
use Rattle.vk_plan.specs.Plans.{PlanValue}
use Rattle.vk_wire.specs.declared.wire.WireCom.{WireCom}
use Rattle.vk_row.specs.declared.case.LaneCase.{LaneCase}
use Rattle.vk_row.specs.declared.case.LaneFault.{LaneFault}
use Rattle.vk_row.specs.declared.case.LaneFault.TheVariants as lane
use Rattle.vk_row.specs.Lanes.{no_digests}
use Rattle.vk_row.specs.LaneTests.{checked_lane}
use Rattle.vk_board.specs.declared.board.SealLines.{SealLines}
use Rattle.vk_board.specs.declared.board.LaneLines.{LaneLines}
use Rattle.vk_board.specs.Reading.{lane_at, seats_of}
use Rattle.vk_reply.specs.declared.challenge.Challenge.{Challenge}
use Rattle.vk_reply.specs.Reading.{challenge_at, reply_head_at, reply_lane_at}
use Rattle.vk_judge.specs.declared.answers.Part.{Part}
use Rattle.vk_judge.specs.declared.answers.Part.TheVariants as part
use Rattle.vk_judge.specs.declared.answers.Fault.{Fault}
use Rattle.vk_judge.specs.declared.answers.Fault.TheVariants.{Malformed, Lanes, Wire, Row}
use Rattle.vk_judge.specs.declared.halt.Halt.{Halt}
use Rattle.vk_judge.specs.declared.halt.Halt.TheVariants.{Refused, Failed, NoMemory}
use Rattle.vk_judge.specs.Statement.{StatementValue}

-- what judging answers is what the definition gives: a value, or why it is refused. After a failure
-- of the outside or want of memory nothing is said
abbrev pub Judges : {T X V : Type 0} → (T → X) → Result T (Halt V) → Result X V → Type 0
Judges value (Ok x) expected = expected ≡ Ok (value x)
Judges value (Err (Refused refusal)) expected = expected ≡ Err refusal
Judges value (Err Failed) expected = Unit {0}
Judges value (Err NoMemory) expected = Unit {0}

-- so it is of modelled files, and what is read on from is what the definition gives besides
abbrev pub JudgesOn : {T X V : Type 0} → Option Files → (Files → X) → Result T (Halt V)
    → (Files → Result (T × X) V) → Type 0
JudgesOn held rest result expected =
    IfSome held (λ files. Judges (λ x. (x, rest files)) result (expected files))

-- a fault of the form of a file is the fault
abbrev pub in_part : {X : Type 0} → Part → Result X ℕ → Result X Fault
in_part file (Ok x) = Ok x
in_part file (Err line) = Err (Malformed file line)

-- what was read, and from where to read on
abbrev pub and_rest : {X V : Type 0} → Result X V → Rest → Result (X × Rest) V
and_rest (Ok x) rest = Ok (x, rest)
and_rest (Err refusal) rest = Err refusal

-- ---- a lane

-- how many wires a plan has after its inputs
abbrev pub later_wires : PlanValue → ℕ
later_wires plan = length plan.kinds - plan.inputs

-- the commitments of the seals in the lane, counted from 0
abbrev pub input_coms : ℕ → List SealLines → List WireCom
input_coms index seals = map (λ seal. slice_index_or seal.coms index no_digests) seals

-- all that is public of the lane, counted from 1
abbrev pub case_of : StatementValue → ℕ → LaneLines → LaneCase
case_of s number lines = record {
  auction = s.auction;
  lane = number;
  seats = seats_of s.seals;
  coms = input_coms (number - 1) s.seals ++ lines.coms;
  posted = lines.posted;
}

-- the fault of a lane that was checked
abbrev pub lane_fault : ℕ → Result (List ℕ) LaneFault → Result Unit Fault
lane_fault number (Ok halves) = Ok tt
lane_fault number (Err (lane.Wire wire fault)) = Err (Wire number wire fault)
lane_fault number (Err (lane.Row row)) = Err (Row number row)
lane_fault number (Err lane.NoMemory) = Ok tt

-- the lane of that number, for its bit: its lines in the file, its lines in the reply, its wires,
-- its rows
unfoldable pub lane_judged : StatementValue → ℕ → Bool → Rest → Rest → Result (Rest × Rest) Fault
lane_judged s number bit file reply = do
  lines ← in_part part.Board (lane_at number (later_wires s.plan) (length s.plan.rows) file)
  shown ← in_part part.Reply (reply_lane_at number s.plan.kinds bit reply)
  done ← lane_fault number (checked_lane s.plan (case_of s number lines.0) bit shown.0)
  Ok (lines.1, shown.1)

-- one lane for each bit, the first of them with that number
unfoldable pub lanes_judged : StatementValue → ℕ → List Bool → Rest → Rest
    → Result (Rest × Rest) Fault
lanes_judged s number [] file reply = Ok (file, reply)
lanes_judged s number (bit ∷ bits) file reply =
    lane_judged s number bit file reply >>= λ rests. lanes_judged s (number + 1) bits rests.0
    rests.1

-- ---- all that stands behind the front

-- the challenge's bits and the reply's lanes are as many as the statement's lanes
abbrev pub counted : ℕ → Challenge → ℕ → Result Unit Fault
counted lanes challenge replies = if length challenge.bits == lanes && replies == lanes then Ok tt
    else Err Lanes

-- the end of the file, then the end of the reply
unfoldable pub ends_judged : Rest → Rest → Result Unit Fault
ends_judged file reply = do
  board_over ← in_part part.Board (end_at file)
  reply_over ← in_part part.Reply (end_at reply)
  Ok tt

-- the tests in their order, from the first line behind the front on
unfoldable pub behind_judged : StatementValue → Rest → Rest → Rest → Result Unit Fault
behind_judged s file challenge reply = do
  bits ← in_part part.Challenge (challenge_at challenge)
  replies ← in_part part.Reply (reply_head_at reply)
  same ← counted s.lanes bits.0 replies.0
  rests ← lanes_judged s 1 bits.0.bits file replies.1
  ends_judged rests.0 rests.1
