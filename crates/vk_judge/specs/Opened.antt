-- Files of any form, from their first lines on: what stands before the first lane, and then what
-- stands behind it.
use Rattle.std.specs.Prelude.{◌≡◌, ◌⊎◌, ℕ, ◌+◌, ◌≤◌, false, List, Option, Some, None, IsSome, IfOk, IfSome, IsErrOf, IsSomeAnd, option_map, Result, Ok, Err}
use Rattle.vk_io.specs.Files.{Files}
use Rattle.vk_io.specs.declared.errors.OutsideErr.{OutsideErr}
use Rattle.vk_io.specs.declared.errors.OutsideErr.TheVariants as outside
use Rattle.vk_lines.specs.Gives.{Gives}
use Rattle.vk_lines.specs.Lines.{OnlyReads, Rest}
use Rattle.vk_judge.specs.declared.answers.Fault.{Fault}
use Rattle.vk_judge.specs.declared.answers.VErr.{VErr}
use Rattle.vk_judge.specs.declared.answers.VErr.TheVariants as verr
use Rattle.vk_judge.specs.declared.opened.Opened.{Opened}
use Rattle.vk_judge.specs.declared.opened.Refusal.{Refusal}
use Rattle.vk_judge.specs.declared.opened.Refusal.TheVariants as refusal
use Rattle.vk_judge.specs.declared.stage.Base.{Base}
use Rattle.vk_judge.specs.declared.stage.Course.{Course}
use Rattle.vk_judge.specs.declared.stage.Finding.{Finding}
use Rattle.vk_judge.specs.declared.stage.Finding.TheVariants.{Refused}
use Rattle.vk_judge.specs.declared.stage.Stage.{Stage}
use Rattle.vk_judge.specs.declared.stage.Stage.TheVariants.{Before, Running}
use Rattle.vk_judge.specs.declared.stage.TwoLane.{TwoLane}
use Rattle.vk_judge.specs.Behind.{behind_judged}
use Rattle.vk_judge.specs.Found.{told_by}
use Rattle.vk_judge.specs.Begun.{from_start, unread_file}
use Rattle.vk_judge.specs.Two.{Ahead, BothAreAccepted, IsBase, IsTwoLane, ahead_behind, ahead_on, base_behind, base_in, over, rests_of, with_lane}
use Rattle.vk_judge.specs.Wanting.{MemoryWasWanting}

-- how files of a form are read before their first lane: H is what their head says, and R what a
-- file may be refused for by what its front says
abbrev pub Front : Type 0 → Type 0 → Type 0
Front H R = Rest → Result (Opened H × Rest) (Refusal R)

-- ---- one reply

-- what is judged behind the front
abbrev pub in_file : {X R : Type 0} → Result X Fault → Result X (Refusal R)
in_file (Ok x) = Ok x
in_file (Err fault) = Err (refusal.Fault fault)

-- after what was read before the first lane
abbrev pub judged_past : {H R : Type 0} → Result (Opened H × Rest) (Refusal R) → Rest → Rest
    → Result Unit (Refusal R)
judged_past (Ok opened) challenge reply =
    in_file (behind_judged opened.0.statement opened.1 challenge reply)
judged_past (Err refusal) challenge reply = Err refusal

-- of a file, a challenge and the reply to it
abbrev pub file_judged : {H R : Type 0} → Front H R → Rest → Rest → Rest → Result Unit (Refusal R)
file_judged front file = judged_past (front file)

-- of their bytes
abbrev pub judged_in : {H R : Type 0} → Front H R → List ℕ → List ℕ → List ℕ
    → Result Unit (Refusal R)
judged_in front file challenge reply =
    file_judged front (from_start file) (from_start challenge) (from_start reply)

-- ---- two replies

-- what is found behind the front, as it is told of the file
abbrev pub as_found : {R : Type 0} → Finding Fault → Finding (Refusal R)
as_found = told_by refusal.Fault

abbrev pub as_ahead : {R : Type 0} → Ahead Fault → Ahead (Refusal R)
as_ahead ahead = record { lanes = ahead.lanes; finding = as_found ahead.finding }

-- the head of a file, what its lanes are to show, and the bits of both challenges
pub record FileBase (H : Type 0) : Type 0 where
  pub head : H
  pub base : Base

abbrev pub with_head : {H : Type 0} → H → Base → FileBase H
with_head head base = record { head = head; base = base }

-- the file that was opened
abbrev pub opened_in : {H : Type 0} → FileBase H → Opened H
opened_in known = record { head = known.head; statement = known.base.statement }

-- what was read before the first lane, where there was no fault so far; and what is still to be
-- given and found
pub record Coming (H R : Type 0) : Type 0 where
  pub base : Option (FileBase H)
  pub ahead : Ahead (Refusal R)

-- of a file that is refused before its first lane
abbrev pub refused : {H R : Type 0} → Refusal R → Coming H R
refused refusal = record { base = None; ahead = over (Refused false refusal) }

-- of one with this head, by what there is behind its front
abbrev pub coming_with : {H R : Type 0} → H → Option Base → Ahead Fault → Coming H R
coming_with head base ahead =
    record { base = option_map (with_head head) base; ahead = as_ahead ahead }

-- after what was read before the first lane
abbrev pub coming_past : {H R : Type 0} → Result (Opened H × Rest) (Refusal R) → Rest → Rest → Rest
    → Rest → Coming H R
coming_past (Ok opened) challenge reply other second =
    coming_with opened.0.head
    (base_in (base_behind opened.0.statement opened.1 challenge reply other second))
    (ahead_behind opened.0.statement opened.1 challenge reply other second)
coming_past (Err refusal) challenge reply other second = refused refusal

-- of a file, a challenge and the reply to it, and another challenge and reply
abbrev pub file_coming : {H R : Type 0} → Front H R → Rest → Rest → Rest → Rest → Rest
    → Coming H R
file_coming front file = coming_past (front file)

-- of their bytes
abbrev pub coming_in : {H R : Type 0} → Front H R → List ℕ → List ℕ → List ℕ → List ℕ → List ℕ
    → Coming H R
coming_in front file challenge reply other second =
    file_coming front (from_start file) (from_start challenge) (from_start reply)
    (from_start other) (from_start second)

-- ---- how far two replies to a file were read: lane by lane, or not past a refusal

abbrev pub Checked : Type 0 → Type 0 → Type 0
Checked H R = Stage H R

-- every lane was given, where both replies are accepted
abbrev pub IsRight : {V : Type 0} → Base → ℕ → Finding V → Type 0
IsRight base given finding = (¬ BothAreAccepted finding) ⊎ (given ≡ base.statement.lanes)

pub record IsCourse {H R : Type 0} (course : Course H R) : Type 0 where
  pub base : IsBase course.base
  pub within : course.given ≤ course.base.statement.lanes
  pub finding : IfSome course.finding (IsRight course.base course.given)

abbrev pub IsChecked : {H R : Type 0} → Checked H R → Type 0
IsChecked (Before finding) = ¬ BothAreAccepted finding
IsChecked (Running course) = IsCourse course

-- what was found, where no lane is given any more
abbrev pub checked_finding : {H R : Type 0} → Checked H R → Option (Finding (Refusal R))
checked_finding (Before finding) = Some finding
checked_finding (Running course) = course.finding

-- what was read before the first lane, where there was no fault so far
abbrev pub checked_base : {H R : Type 0} → Checked H R → Option (FileBase H)
checked_base (Before finding) = None
checked_base (Running course) = Some (with_head course.head course.base)

-- how many lanes were given
abbrev pub checked_given : {H R : Type 0} → Checked H R → ℕ
checked_given (Before finding) = 0
checked_given (Running course) = course.given

abbrev pub ahead_unless : {V : Type 0} → Option (Finding V) → Ahead V → Ahead V
ahead_unless (Some finding) ahead = over finding
ahead_unless None ahead = ahead

-- what is still to be given and found of the files
abbrev pub coming_of : {H R : Type 0} → Checked H R → Files → Coming H R
coming_of (Before finding) files = record { base = None; ahead = over finding }
coming_of (Running course) files = record {
  base = Some (with_head course.head course.base);
  ahead = ahead_unless course.finding
      (as_ahead (ahead_on course.base course.given (rests_of course.readers files)));
}

-- the head and the statement are known
abbrev pub HasOpened : {H R : Type 0} → Checked H R → Type 0
HasOpened checked = IsSome (checked_base checked)

-- no lane is given any more
abbrev pub IsCheckedOver : {H R : Type 0} → Checked H R → Type 0
IsCheckedOver checked = IsSome (checked_finding checked)

-- a lane is given of what was ahead, and then what is ahead of what was read further; or what is
-- found
abbrev pub GoesOn : {H R : Type 0} → Ahead (Refusal R) → Option TwoLane → Checked H R → Files
    → Type 0
GoesOn before (Some lane) new files = before ≡ with_lane lane (coming_of new files).ahead
GoesOn {H} {R} before None new files =
    (found : Finding (Refusal R)) × (checked_finding new ≡ Some found) × (before ≡ over found)

abbrev pub CheckedGoesOn : {H R : Type 0} → Checked H R → Option TwoLane → Checked H R → Files
    → Type 0
CheckedGoesOn old lane new files = GoesOn (coming_of old files).ahead lane new files

-- a lane that is given is the next one of the file's lanes
pub record IsNextOfFile {H R : Type 0} (old new : Checked H R) (lane : TwoLane) : Type 0 where
  pub known : FileBase H
  pub is : checked_base new ≡ Some known
  pub right : IsBase known.base
  pub count : checked_given new ≡ checked_given old + 1
  pub within : checked_given new ≤ known.base.statement.lanes
  pub checked : IsTwoLane known.base.statement (checked_given new) lane

-- one step: the next lane is given, or none, where no lane is given any more; what was read before
-- the first lane stays
pub record IsLaneStep {H R : Type 0} (old : Checked H R) (lane : Option TwoLane)
    (new : Checked H R) : Type 0 where
  pub next : IfSome lane (IsNextOfFile old new)
  pub none : lane ≡ None → IsCheckedOver new × (checked_given new ≡ checked_given old)
  pub base : checked_base new ≡ checked_base old

-- what a checker of named files answers where it begins, with what is held of the files and the count
-- of faults
pub record GivesBegun {H R S : Type 0} (held : S → Option Files) (faults : S → ℕ)
    (coming : Files → Result (Coming H R) VErr) (result : Result (Checked H R) VErr)
    (old new : S) : Type 0 where
  -- of modelled files, what is to come is as defined, or which of them is missing or too long
  pub modelled : IfSome (held old)
      (λ files. Gives unread_file (λ checker. coming_of checker files) result (coming files))
  -- no lane was given yet
  pub none_given : IfOk result (λ checker. checked_given checker ≡ 0)
  -- it gives up only for want of memory
  pub wanting : IsErrOf result verr.NoMemory → MemoryWasWanting
  -- every fault is answered, and nothing else is
  pub shelf : OnlyReads held faults verr.Failed result old new

-- what a checker answers that is asked for its next lane, with what is held of the files and the
-- count of faults
pub record GivesNext {H R S : Type 0} (held : S → Option Files) (faults : S → ℕ)
    (checked : Checked H R) (result : Result (Checked H R × Option TwoLane) OutsideErr)
    (old new : S) : Type 0 where
  -- of modelled files, what was ahead goes on
  pub modelled : IfSome (held old)
      (λ files. IfOk result (λ next. CheckedGoesOn checked next.1 next.0 files))
  -- modelled or not, it is one step
  pub step : IfOk result (λ next. IsLaneStep checked next.1 next.0)
  -- it gives up only for want of memory
  pub wanting : IsErrOf result outside.NoMemory → MemoryWasWanting
  -- every fault is answered, and nothing else is
  pub shelf : OnlyReads held faults outside.Failed result old new

-- what a checker tells that gives no lane any more: what was found
pub record GivesFinding {H R V : Type 0} (found : Option (Finding V)) (checked : Checked H R)
    (finding : Finding V) : Type 0 where
  pub value : found ≡ Some finding
  -- both replies are accepted only where every lane was given
  pub all : BothAreAccepted finding
      → IsSomeAnd (checked_base checked)
      (λ known. checked_given checked ≡ known.base.statement.lanes)
