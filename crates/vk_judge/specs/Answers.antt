-- One answer as another. What was refused is refused again, and want of memory and a failure are
-- handed on as they are: none of these takes memory.
use Rattle.std.specs.Prelude.{ℕ, ◌+◌, true, false, Option, Some, None, Result, Ok, Err}
use Rattle.vk_lines.specs.Lines.{LinesValue}
use Rattle.vk_lines.specs.declared.errors.ReadErr.{ReadErr}
use Rattle.vk_lines.specs.declared.errors.ReadErr.TheVariants as read
use Rattle.vk_lines.specs.declared.errors.StartErr.{StartErr}
use Rattle.vk_lines.specs.declared.errors.StartErr.TheVariants as start
use Rattle.vk_io.specs.declared.errors.OutsideErr.{OutsideErr}
use Rattle.vk_io.specs.declared.errors.OutsideErr.TheVariants as line
use Rattle.vk_judge.specs.declared.answers.Part.{Part}
use Rattle.vk_judge.specs.declared.answers.Fault.{Fault}
use Rattle.vk_judge.specs.declared.answers.Fault.TheVariants as fault
use Rattle.vk_judge.specs.declared.answers.VErr.{VErr}
use Rattle.vk_judge.specs.declared.answers.VErr.TheVariants as verr
use Rattle.vk_judge.specs.declared.halt.Halt.{Halt}
use Rattle.vk_judge.specs.declared.halt.Halt.TheVariants.{Refused, Failed, NoMemory}
use Rattle.vk_judge.specs.declared.stage.TwoLane.{TwoLane}
use Rattle.vk_judge.specs.declared.stage.Finding.{Finding}
use Rattle.vk_judge.specs.declared.stage.Finding.TheVariants as finding
use Rattle.vk_judge.specs.declared.stage.Base.{Base}
use Rattle.vk_judge.specs.declared.stage.TwoReaders.{TwoReaders}
use Rattle.vk_judge.specs.declared.stage.Course.{Course}
use Rattle.vk_judge.specs.declared.stage.Stage.{Stage}
use Rattle.vk_judge.specs.declared.stage.Stage.TheVariants.{Before, Running}
use Rattle.vk_judge.specs.Opened.{as_found}
use Rattle.vk_judge.specs.Two.{second_fault}

-- what was read of a file: a fault of its form is the fault
abbrev pub read_answer : {X : Type 0} → Part → Result X ReadErr → Result X (Halt Fault)
read_answer file (Ok x) = Ok x
read_answer file (Err (read.Malformed line)) = Err (Refused (fault.Malformed file line))
read_answer file (Err read.Failed) = Err Failed
read_answer file (Err read.NoMemory) = Err NoMemory

-- a file that is begun, or why it isn't
abbrev pub begun_answer : Part → Result LinesValue StartErr → Result LinesValue VErr
begun_answer file (Ok lines) = Ok lines
begun_answer file (Err start.Missing) = Err (verr.Missing file)
begun_answer file (Err start.TooLong) = Err (verr.TooLong file)
begun_answer file (Err start.Failed) = Err verr.Failed
begun_answer file (Err start.NoMemory) = Err verr.NoMemory

-- what was judged of the first reply: a fault of it is what is found
abbrev pub first_answer : {X : Type 0} → Result X (Halt Fault) → Result X (Halt (Finding Fault))
first_answer (Ok x) = Ok x
first_answer (Err (Refused fault)) = Err (Refused (finding.Refused false fault))
first_answer (Err Failed) = Err Failed
first_answer (Err NoMemory) = Err NoMemory

-- what is found where the second reply has this fault, by what was judged of the first
abbrev pub second_halt : Fault → Result Unit (Halt Fault) → Halt (Finding Fault)
second_halt fault (Ok done) = Refused (finding.Refused true (second_fault fault))
second_halt fault (Err (Refused first)) = Refused (finding.Refused false first)
second_halt fault (Err Failed) = Failed
second_halt fault (Err NoMemory) = NoMemory

-- what was judged of the second reply, and, where there is a fault of it, of the first
abbrev pub second_answer : {X : Type 0} → Result Unit (Halt Fault) → Result X (Halt Fault)
    → Result X (Halt (Finding Fault))
second_answer first (Ok x) = Ok x
second_answer first (Err (Refused fault)) = Err (second_halt fault first)
second_answer first (Err Failed) = Err Failed
second_answer first (Err NoMemory) = Err NoMemory

-- what was judged of the ends: of the file with the first reply, and, where there is no fault, of
-- the second
abbrev pub ends_halt : Finding Fault → Result Unit (Halt Fault) → Result Unit (Halt Fault)
    → Halt (Finding Fault)
ends_halt accepted (Ok done) (Ok over) = Refused accepted
ends_halt accepted (Ok done) (Err (Refused fault)) =
    Refused (finding.Refused true (second_fault fault))
ends_halt accepted (Ok done) (Err Failed) = Failed
ends_halt accepted (Ok done) (Err NoMemory) = NoMemory
ends_halt accepted (Err (Refused fault)) second = Refused (finding.Refused false fault)
ends_halt accepted (Err Failed) second = Failed
ends_halt accepted (Err NoMemory) second = NoMemory

-- before the first lane, where there is no fault before it
abbrev pub start_answer : {H R : Type 0} → H → Result Base (Halt (Finding Fault)) → TwoReaders
    → Result (Stage H R) OutsideErr
start_answer head (Ok base) readers = Ok (Running (record {
  head = head;
  base = base;
  readers = readers;
  given = 0;
  finding = None;
}))
start_answer head (Err (Refused finding)) readers = Ok (Before (as_found finding))
start_answer head (Err Failed) readers = Err line.Failed
start_answer head (Err NoMemory) readers = Err line.NoMemory

-- after a step from so many lanes
abbrev pub step_answer : {H R : Type 0} → H → Base → TwoReaders → ℕ
    → Result TwoLane (Halt (Finding Fault)) → Result (Course H R × Option TwoLane) OutsideErr
step_answer head base readers given (Ok lane) = Ok (
  record {
    head = head;
    base = base;
    readers = readers;
    given = given + 1;
    finding = None;
  },
  Some lane,
)
step_answer head base readers given (Err (Refused finding)) = Ok (
  record {
    head = head;
    base = base;
    readers = readers;
    given = given;
    finding = Some (as_found finding);
  },
  None,
)
step_answer head base readers given (Err Failed) = Err line.Failed
step_answer head base readers given (Err NoMemory) = Err line.NoMemory

-- what was come to, where a refusal is one of the values
abbrev pub known_answer : {X V : Type 0} → Result X (Halt V) → Result (Result X V) OutsideErr
known_answer (Ok x) = Ok (Ok x)
known_answer (Err (Refused refusal)) = Ok (Err refusal)
known_answer (Err Failed) = Err line.Failed
known_answer (Err NoMemory) = Err line.NoMemory
