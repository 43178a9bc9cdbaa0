-- Files of a form, by whole texts: when a reply is accepted, why a file or a reply is refused, and
-- what two accepted replies give.
use Rattle.std.specs.Prelude.{◌≡◌, ◌↔◌, ◌⊎◌, ℕ, ◌+◌, Bool, true, false, List, ◌++◌, length, slice_get, Some, Result, Ok, Err}
use Rattle.vk_lines.specs.Lines.{Rest}
use Rattle.vk_wire.specs.declared.wire.Shown.{Shown}
use Rattle.vk_row.specs.declared.case.LaneCase.{LaneCase}
use Rattle.vk_judge.specs.declared.answers.Part.TheVariants as part
use Rattle.vk_judge.specs.declared.answers.Fault.{Fault}
use Rattle.vk_judge.specs.declared.answers.Fault.TheVariants.{Malformed}
use Rattle.vk_judge.specs.declared.opened.Opened.{Opened}
use Rattle.vk_judge.specs.declared.opened.Refusal.{Refusal}
use Rattle.vk_judge.specs.declared.opened.Refusal.TheVariants as refusal
use Rattle.vk_judge.specs.declared.stage.Finding.{Finding}
use Rattle.vk_judge.specs.declared.stage.Finding.TheVariants.{Refused}
use Rattle.vk_judge.specs.declared.stage.TwoLane.{TwoLane}
use Rattle.vk_judge.specs.Statement.{StatementValue, IsStatement}
use Rattle.vk_judge.specs.Begun.{from_start}
use Rattle.vk_judge.specs.Acceptance.{AcceptsBehind, bit_of}
use Rattle.vk_judge.specs.Refusals.{BeginsWith, FaultHolds, lanes_and_end_at}
use Rattle.vk_judge.specs.Two.{Ahead, BothAreAccepted, accepted_of, second_fault}
use Rattle.vk_judge.specs.TwoLaw.{bits_in}
use Rattle.vk_judge.specs.TwoValues.{case_behind, shown_behind}
use Rattle.vk_judge.specs.Opened.{FileBase, Front, coming_in, judged_in}

-- the fronts of a form of file: which of them may stand, what the lanes behind each are to show,
-- and its text
pub record Fronts (F : Type 0) : Type 1 where
  pub IsRight : F → Type 0
  pub statement : F → StatementValue
  pub text : F → List ℕ

-- ---- one reply

-- the file has a front that may stand, and behind it the reply is accepted for the challenge
pub record Accepts {F : Type 0} (fronts : Fronts F) (file challenge reply : List ℕ) : Type 0 where
  pub front : F
  pub right : fronts.IsRight front
  pub behind : AcceptsBehind (fronts.statement front) (fronts.text front) file challenge reply

-- a form of file: its fronts; how they are read, and the head of each; why a file is refused by
-- what its front says, and where before its first lane it stops being right; and which line of a
-- file is its fault line
pub record Form (F H R : Type 0) : Type 1 where
  pub fronts : Fronts F
  pub front_at : Front H R
  pub head : F → H
  pub Refuses : R → List ℕ → Type 0
  pub Stops : List ℕ → ℕ → Type 0
  pub IsLine : List ℕ → ℕ → Type 0

-- what is read of a front
abbrev pub opened_of : {F H R : Type 0} → Form F H R → F → Opened H
opened_of form front =
    record { head = form.head front; statement = form.fronts.statement front }

-- the file has a front that may stand, and this fault behind it
pub record FailsBehind {F H R : Type 0} (form : Form F H R) (file challenge reply : List ℕ)
    (fault : Fault) : Type 0 where
  pub front : F
  pub right : form.fronts.IsRight front
  pub begins : BeginsWith file (form.fronts.text front)
  pub holds : FaultHolds (form.fronts.statement front) (form.fronts.text front) (form.IsLine file)
      fault file challenge reply

-- the file stops being right before its first lane, or it has a front and this fault behind it
abbrev pub Fails : {F H R : Type 0} → Form F H R → List ℕ → List ℕ → List ℕ → Fault → Type 0
Fails form file challenge reply (Malformed part.Board line) =
    form.Stops file line ⊎ FailsBehind form file challenge reply (Malformed part.Board line)
Fails form file challenge reply fault = FailsBehind form file challenge reply fault

-- that is how the files are: the reply is accepted; the front is refused; or there is this fault
abbrev pub JudgedHolds : {F H R : Type 0} → Form F H R → Result Unit (Refusal R) → List ℕ → List ℕ
    → List ℕ → Type 0
JudgedHolds form (Ok done) file challenge reply = Accepts form.fronts file challenge reply
JudgedHolds form (Err (refusal.Front reason)) file challenge reply = form.Refuses reason file
JudgedHolds form (Err (refusal.Fault fault)) file challenge reply =
    Fails form file challenge reply fault

-- each is what judging comes to exactly where it holds
abbrev pub JudgedExactly : {F H R : Type 0} → Form F H R → Type 0
JudgedExactly {F} {H} {R} form = (judged : Result Unit (Refusal R)) (file challenge reply : List ℕ)
    → (judged_in form.front_at file challenge reply ≡ judged)
    ↔ JudgedHolds form judged file challenge reply

-- ---- the front is exact

-- this front is read of the file
pub record ReadFront {F H R : Type 0} (form : Form F H R) (file : List ℕ) (front : F) : Type 0 where
  pub after : Rest
  pub text : file ≡ form.fronts.text front ++ after.left
  pub read : form.front_at (from_start file) ≡ Ok (opened_of form front, after)

-- what is read before the first lane is a front that may stand
pub record OpenedFront {F H R : Type 0} (form : Form F H R) (file : List ℕ) : Type 0 where
  pub front : F
  pub right : form.fronts.IsRight front
  pub is : ReadFront form file front

-- a front is read exactly of the files that begin with its text, and is refused exactly where it is
-- to be
pub record IsForm {F H R : Type 0} (form : Form F H R) : Type 0 where
  pub statement : (front : F) → form.fronts.IsRight front
      → IsStatement (form.fronts.statement front)
  pub one : (front other : F) → opened_of form front ≡ opened_of form other → front ≡ other
  pub shown : (file : List ℕ) (opened : Opened H) (after : Rest)
      → form.front_at (from_start file) ≡ Ok (opened, after) → OpenedFront form file
  pub found : (file : List ℕ) (front : F) → form.fronts.IsRight front
      → BeginsWith file (form.fronts.text front) → ReadFront form file front
  pub refused : (file : List ℕ) (reason : R)
      → (form.front_at (from_start file) ≡ Err (refusal.Front reason)) ↔ form.Refuses reason file
  pub stops : (file : List ℕ) (line : ℕ)
      → (form.front_at (from_start file) ≡ Err (refusal.Fault (Malformed part.Board line)))
      ↔ form.Stops file line
  pub only : (file : List ℕ) (fault : Fault)
      → form.front_at (from_start file) ≡ Err (refusal.Fault fault)
      → (line : ℕ) × (fault ≡ Malformed part.Board line)
  pub line : (file : List ℕ) (front : F) → form.fronts.IsRight front
      → (is : ReadFront form file front) (line : ℕ)
      → (lanes_and_end_at (form.fronts.statement front) is.after ≡ Err line)
      ↔ form.IsLine file line

-- ---- two replies

-- what is told of a second reply, whose fault names the second challenge or reply
abbrev pub told_of_second : {R : Type 0} → Refusal R → Refusal R
told_of_second (refusal.Front reason) = refusal.Front reason
told_of_second (refusal.Fault fault) = refusal.Fault (second_fault fault)

-- what judging each reply comes to: the first's refusal, else the second's, else this
abbrev pub two_told : {R : Type 0} → Finding (Refusal R) → Result Unit (Refusal R)
    → Result Unit (Refusal R) → Finding (Refusal R)
two_told accepted (Ok done) (Ok over) = accepted
two_told accepted (Ok done) (Err second) = Refused true (told_of_second second)
two_told accepted (Err first) second = Refused false first

-- what is found of two replies is what judging each of them comes to
abbrev pub FindsByBoth : {H R : Type 0} → Front H R → Type 0
FindsByBoth front = (file challenge reply other second : List ℕ)
    → (coming_in front file challenge reply other second).ahead.finding
    ≡ two_told (accepted_of (bits_in challenge) (bits_in other))
    (judged_in front file challenge reply) (judged_in front file other second)

module _ {F : Type 0} {fronts : Fronts F} {file : List ℕ} where
  -- the bits of the challenge
  abbrev pub bits_of : {challenge reply : List ℕ} → Accepts fronts file challenge reply → List Bool
  bits_of accepted = accepted.behind.challenge.bits

  -- all that is public of the lane of that number, from 1
  abbrev pub case_in : {challenge reply : List ℕ} → Accepts fronts file challenge reply → ℕ
      → LaneCase
  case_in accepted number = case_behind accepted.behind number

  -- what the reply shows of it
  abbrev pub shown_in : {challenge reply : List ℕ} → Accepts fronts file challenge reply → ℕ
      → List Shown
  shown_in accepted number = shown_behind accepted.behind number

module _ {F : Type 0} {fronts : Fronts F} {file challenge reply other second : List ℕ} (one : Accepts fronts file challenge reply)
    (two : Accepts fronts file other second) where
  -- the lane of that number, with what each reply shows of it for its challenge's bit
  abbrev pub two_lane_in : ℕ → TwoLane
  two_lane_in number = record {
    case = case_in one number;
    first_bit = bit_of one.behind.challenge number;
    first = shown_in one number;
    second_bit = bit_of two.behind.challenge number;
    second = shown_in two number;
  }

  -- both were accepted with one file
  pub record AreOfOneFile : Type 0 where
    pub one_front : two.front ≡ one.front
    pub one_lines : two.behind.lines ≡ one.behind.lines

  -- what is given: the lanes 1, 2, .. of the file, and what is found by the challenges
  pub record GivesValues {V : Type 0} (ahead : Ahead V) : Type 0 where
    pub one_each : length ahead.lanes ≡ (fronts.statement one.front).lanes
    pub each : (index : ℕ) (lane : TwoLane) → slice_get ahead.lanes index ≡ Some lane
        → lane ≡ two_lane_in (index + 1)
    pub finding : ahead.finding ≡ accepted_of (bits_of one) (bits_of two)

-- the head of the file, what its lanes are to show, and the bits of both challenges
abbrev pub base_of_file : {F H R : Type 0} (form : Form F H R)
    {file challenge reply other second : List ℕ} → Accepts form.fronts file challenge reply
    → Accepts form.fronts file other second → FileBase H
base_of_file form one two = record {
  head = form.head one.front;
  base = record {
    statement = form.fronts.statement one.front;
    first_bits = bits_of one;
    second_bits = bits_of two;
  };
}

-- two accepted replies give what stands in their files
abbrev pub AcceptedGive : {F H R : Type 0} → Form F H R → Type 0
AcceptedGive form = (file challenge reply other second : List ℕ)
    (one : Accepts form.fronts file challenge reply) (two : Accepts form.fronts file other second)
    → AreOfOneFile one two
    × ((coming_in form.front_at file challenge reply other second).base
    ≡ Some (base_of_file form one two))
    × GivesValues one two (coming_in form.front_at file challenge reply other second).ahead

-- two replies are found to be accepted only where they are
abbrev pub OnlyAcceptedGive : {F H R : Type 0} → Form F H R → Type 0
OnlyAcceptedGive form = (file challenge reply other second : List ℕ)
    → BothAreAccepted (coming_in form.front_at file challenge reply other second).ahead.finding
    → Accepts form.fronts file challenge reply × Accepts form.fronts file other second
