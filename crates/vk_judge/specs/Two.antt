-- Two replies side by side, behind a front: what is given of each lane, and what is found.
use Rattle.std.specs.Prelude.{◌≡◌, ℕ, ◌+◌, ◌&&◌, Bool, true, false, not, if◌then◌else◌, List, [], ◌∷◌, length, drop, Option, Some, None, Result, Ok, Err}
use Rattle.vk_residue.specs.Steps.{◌>>=◌}
use Rattle.vk_io.specs.Files.{Files}
use Rattle.vk_lines.specs.Lines.{Rest, rest_of, end_at}
use Rattle.vk_wire.specs.declared.wire.Shown.{Shown}
use Rattle.vk_row.specs.declared.case.LaneCase.{LaneCase}
use Rattle.vk_row.specs.Lanes.{IsAccepted}
use Rattle.vk_judge.specs.declared.answers.Part.{Part}
use Rattle.vk_judge.specs.declared.answers.Part.TheVariants as part
use Rattle.vk_judge.specs.declared.answers.Fault.{Fault}
use Rattle.vk_judge.specs.declared.answers.Fault.TheVariants as fault
use Rattle.vk_judge.specs.declared.halt.Halt.{Halt}
use Rattle.vk_judge.specs.declared.halt.Halt.TheVariants as halt
use Rattle.vk_judge.specs.declared.stage.TwoLane.{TwoLane}
use Rattle.vk_judge.specs.declared.stage.Finding.{Finding}
use Rattle.vk_judge.specs.declared.stage.Finding.TheVariants.{Refused, Same, Ready}
use Rattle.vk_judge.specs.declared.stage.Base.{Base}
use Rattle.vk_judge.specs.declared.stage.TwoReaders.{TwoReaders}
use Rattle.vk_judge.specs.declared.stage.TwoAttempts.{TwoAttempts}
use Rattle.vk_judge.specs.Statement.{StatementValue, IsStatement}
use Rattle.vk_judge.specs.Behind.{in_part, ends_judged}
use Rattle.vk_judge.specs.Parts.{case_at, reply_judged, attempt_at, rest_judged, IsLaneCase}

-- ---- the finding

-- the part of the second attempt in place of that of the first
abbrev pub second_part : Part → Part
second_part part.Board = part.Board
second_part part.Challenge = part.SecondChallenge
second_part part.Reply = part.SecondReply
second_part part.SecondChallenge = part.SecondChallenge
second_part part.SecondReply = part.SecondReply

-- the fault of a second reply, which names the second challenge or reply
abbrev pub second_fault : Fault → Fault
second_fault (fault.Malformed file line) = fault.Malformed (second_part file) line
second_fault fault.Lanes = fault.Lanes
second_fault (fault.Wire lane wire why) = fault.Wire lane wire why
second_fault (fault.Row lane row) = fault.Row lane row

abbrev pub same_bit : Bool → Bool → Bool
same_bit true other = other
same_bit false other = not other

abbrev pub same_bits : List Bool → List Bool → Bool
same_bits [] [] = true
same_bits [] (bit ∷ others) = false
same_bits (bit ∷ bits) [] = false
same_bits (bit ∷ bits) (other ∷ others) = same_bit bit other && same_bits bits others

-- what is found of two accepted replies, by the bits of their challenges
abbrev pub accepted_of : {V : Type 0} → List Bool → List Bool → Finding V
accepted_of first second = if same_bits first second then Same else Ready

-- what judging each reply to its end comes to: a fault of the first, else one of the second, else
-- this
abbrev pub two_result : Finding Fault → Result Unit Fault → Result Unit Fault → Finding Fault
two_result accepted (Ok done) (Ok over) = accepted
two_result accepted (Ok done) (Err second) = Refused true (second_fault second)
two_result accepted (Err first) second = Refused false first

-- ---- what is found on the way

-- a fault of the file or of the first reply is what is found
abbrev pub of_first : {X : Type 0} → Result X Fault → Result X (Finding Fault)
of_first (Ok x) = Ok x
of_first (Err fault) = Err (Refused false fault)

-- what is found where the second reply has this fault, by what the first comes to
abbrev pub second_told : Fault → Result Unit Fault → Finding Fault
second_told fault (Ok done) = Refused true (second_fault fault)
second_told fault (Err first) = Refused false first

-- where the second reply has a fault, the first reply is judged to its end
abbrev pub of_second : {X : Type 0} → Result Unit Fault → Result X Fault → Result X (Finding Fault)
of_second first (Ok x) = Ok x
of_second first (Err fault) = Err (second_told fault first)

-- what is found at the ends: of the file with the first reply, and then of the second
abbrev pub found_by : Finding Fault → Result Unit Fault → Result (Unit × Rest) Fault → Finding Fault
found_by accepted (Ok done) (Ok over) = accepted
found_by accepted (Ok done) (Err fault) = Refused true (second_fault fault)
found_by accepted (Err fault) second = Refused false fault

-- ---- lanes

-- the file and both replies, each from where it is read on
pub record Rests : Type 0 where
  pub file : Rest
  pub first : Rest
  pub second : Rest

-- what is still to be given and found; V is what a refusal says
pub record Ahead (V : Type 0) : Type 0 where
  pub lanes : List TwoLane
  pub finding : Finding V

-- no lane is given any more
abbrev pub over : {V : Type 0} → Finding V → Ahead V
over finding = record { lanes = []; finding = finding }

abbrev pub with_lane : {V : Type 0} → TwoLane → Ahead V → Ahead V
with_lane lane ahead = record { lanes = lane ∷ ahead.lanes; finding = ahead.finding }

-- the lane by what was read of it, and what is read after it
abbrev pub lane_shown : Bool → Bool → LaneCase × Rest → List Shown × Rest → List Shown × Rest
    → TwoLane × Rests
lane_shown first_bit second_bit case first second = (
  record {
    case = case.0;
    first_bit = first_bit;
    first = first.0;
    second_bit = second_bit;
    second = second.0;
  },
  record { file = case.1; first = first.1; second = second.1 },
)

-- what the second reply shows of the lane of that number, after what the first does; the later bits
-- are the first challenge's
abbrev pub second_shown : StatementValue → ℕ → Bool → Bool → List Bool → Rests → LaneCase × Rest
    → List Shown × Rest → Result (TwoLane × Rests) (Finding Fault)
second_shown s number first_bit second_bit later rests case first = do
  second ← of_second (rest_judged s (number + 1) later case.1 first.1)
      (reply_judged s.plan case.0 number second_bit rests.second)
  Ok (lane_shown first_bit second_bit case first second)

-- what both replies show of the lane
abbrev pub both_shown : StatementValue → ℕ → Bool → Bool → List Bool → Rests → LaneCase × Rest
    → Result (TwoLane × Rests) (Finding Fault)
both_shown s number first_bit second_bit later rests case =
    of_first (reply_judged s.plan case.0 number first_bit rests.first) >>= second_shown s number
    first_bit second_bit later rests case

-- the lane in the file, and what both replies show of it
unfoldable pub two_lane_at : StatementValue → ℕ → Bool → Bool → List Bool → Rests
    → Result (TwoLane × Rests) (Finding Fault)
two_lane_at s number first_bit second_bit later rests =
    of_first (case_at s number rests.file) >>= both_shown s number first_bit second_bit later rests

-- what is found where every lane was given
unfoldable pub ends_found : Finding Fault → Rests → Finding Fault
ends_found accepted rests = found_by accepted (ends_judged rests.file rests.first)
    (in_part part.Reply (end_at rests.second))

abbrev pub ahead_after : Result (TwoLane × Rests) (Finding Fault) → (Rests → Ahead Fault)
    → Ahead Fault
ahead_after (Ok given) next = with_lane given.0 (next given.1)
ahead_after (Err finding) next = over finding

-- one lane for each bit, the first of them with that number, and then the ends
unfoldable pub ahead_from : StatementValue → Finding Fault → ℕ → List Bool → List Bool → Rests
    → Ahead Fault
ahead_from s accepted number (first_bit ∷ first) (second_bit ∷ second) rests =
    ahead_after (two_lane_at s number first_bit second_bit first rests)
    (λ next. ahead_from s accepted (number + 1) first second next)
ahead_from s accepted number _ _ rests = over (ends_found accepted rests)

-- ---- both attempts, and what is ahead of them

-- the second attempt, after the first
abbrev pub second_begun : StatementValue → Rest → Rest → Rest → List Bool × Rest
    → Result (Base × Rests) (Finding Fault)
second_begun s file challenge reply first = do
  second ← of_second (rest_judged s 1 first.0 file first.1) (attempt_at s.lanes challenge reply)
  Ok (
    record { statement = s; first_bits = first.0; second_bits = second.0 },
    record { file = file; first = first.1; second = second.1 },
  )

-- what is read before the first lane: both challenges, and the heads of both replies
unfoldable pub base_behind : StatementValue → Rest → Rest → Rest → Rest → Rest
    → Result (Base × Rests) (Finding Fault)
base_behind s file first_challenge first_reply second_challenge second_reply =
    of_first (attempt_at s.lanes first_challenge first_reply) >>= second_begun s file
    second_challenge second_reply

-- what is ahead after so many lanes
abbrev pub ahead_on : Base → ℕ → Rests → Ahead Fault
ahead_on base given rests =
    ahead_from base.statement (accepted_of base.first_bits base.second_bits) (given + 1)
    (drop given base.first_bits) (drop given base.second_bits) rests

abbrev pub ahead_by : Result (Base × Rests) (Finding Fault) → Ahead Fault
ahead_by (Ok start) = ahead_on start.0 0 start.1
ahead_by (Err finding) = over finding

-- what is given and found behind a front, of a challenge and the reply to it, and another challenge
-- and reply
abbrev pub ahead_behind : StatementValue → Rest → Rest → Rest → Rest → Rest → Ahead Fault
ahead_behind s file first_challenge first_reply second_challenge second_reply =
    ahead_by (base_behind s file first_challenge first_reply second_challenge second_reply)

-- what was read before the first lane, where there was no fault before it
abbrev pub base_in : Result (Base × Rests) (Finding Fault) → Option Base
base_in (Ok start) = Some start.0
base_in (Err finding) = None

-- ---- what the code answers

-- this is what is found, where anything is
abbrev pub IsFound : Halt (Finding Fault) → Finding Fault → Type 0
IsFound (halt.Refused finding) expected = expected ≡ finding
IsFound halt.Failed expected = Unit {0}
IsFound halt.NoMemory expected = Unit {0}

-- a lane was given of what was ahead, or what is found is known
abbrev pub GivesLane : Ahead Fault → Result TwoLane (Halt (Finding Fault)) → Ahead Fault → Type 0
GivesLane before (Ok lane) after = before ≡ with_lane lane after
GivesLane before (Err (halt.Refused finding)) after = before ≡ over finding
GivesLane before (Err halt.Failed) after = Unit {0}
GivesLane before (Err halt.NoMemory) after = Unit {0}

-- both replies are accepted
abbrev pub BothAreAccepted : {V : Type 0} → Finding V → Type 0
BothAreAccepted (Refused second refusal) = ⊥
BothAreAccepted Same = Unit {0}
BothAreAccepted Ready = Unit {0}

-- it tells of no two accepted replies
abbrev pub Refuses : Halt (Finding Fault) → Type 0
Refuses (halt.Refused finding) = ¬ BothAreAccepted finding
Refuses halt.Failed = Unit {0}
Refuses halt.NoMemory = Unit {0}

abbrev pub is_refused : {X V : Type 0} → Result X (Halt V) → Bool
is_refused (Ok x) = false
is_refused (Err (halt.Refused refusal)) = true
is_refused (Err halt.Failed) = false
is_refused (Err halt.NoMemory) = false

-- the file and both replies for the readers
abbrev pub rests_of : TwoReaders → Files → Rests
rests_of readers files = record {
  file = rest_of readers.pair.file files;
  first = rest_of readers.pair.reply files;
  second = rest_of readers.second files;
}

-- what five files come to for the readers of them
abbrev pub of_two : {X : Type 0} → (Rest → Rest → Rest → Rest → Rest → X) → TwoAttempts → Files → X
of_two whole two files =
    whole (rest_of two.readers.pair.file files) (rest_of two.first_challenge files)
    (rest_of two.readers.pair.reply files)
    (rest_of two.second_challenge files) (rest_of two.readers.second files)

-- what was read before the first lane: a statement, and each challenge has a bit for each of its
-- lanes
pub record IsBase (base : Base) : Type 0 where
  pub statement : IsStatement base.statement
  pub first : length base.first_bits ≡ base.statement.lanes
  pub second : length base.second_bits ≡ base.statement.lanes

-- a lane that is given is that of the number, and what both replies show of it is accepted
pub record IsTwoLane (s : StatementValue) (number : ℕ) (lane : TwoLane) : Type 0 where
  pub case : IsLaneCase s number lane.case
  pub first : IsAccepted s.plan lane.case lane.first_bit lane.first
  pub second : IsAccepted s.plan lane.case lane.second_bit lane.second
