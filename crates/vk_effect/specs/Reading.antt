-- The files that a command is given by name: each is held, is not too long, and is of its form.
use Rattle.std.specs.Prelude.{◌≡◌, ℕ, ◌^◌, ◌≤◌, nat_lt, if◌then◌else◌, List, length, Option, Some, None, option_map, Result, Ok, Err}
use Rattle.std.specs.FinMap.{get}
use Rattle.std.specs.Result.{result_err}
use Rattle.vk_residue.specs.Steps.{◌>>=◌}
use Rattle.vk_io.specs.declared.errors.OutsideErr.TheVariants as outside
use Rattle.vk_io.specs.declared.errors.OutsideErr.{OutsideErr}
use Rattle.vk_io.specs.Files.{Files}
use Rattle.vk_lines.specs.Forms.{Table, fault_line}
use Rattle.vk_lines.specs.Lines.{Rest}
use Rattle.vk_effect.specs.declared.reading.Unread.TheVariants.{Said, Failed, NoMemory}
use Rattle.vk_effect.specs.declared.reading.Unread.{Unread}
use Rattle.vk_effect.specs.Effects.{SaidValue}
use Rattle.vk_effect.specs.NamedFiles.{malformed_said, missing_said, too_long_said}

-- ---- one file

-- a file from its first line on
abbrev pub from_first : List ℕ → Rest
from_first bytes = record { taken = 0; left = bytes }

-- the file of that name from its first line on; or what is said where it isn't held or is too long
abbrev pub begun_in : List ℕ → Option (List ℕ) → Result Rest SaidValue
begun_in name None = Err (missing_said name)
begun_in name (Some bytes) = if nat_lt (2 ^ 30) (length bytes) then Err (too_long_said name)
    else Ok (from_first bytes)

-- the value that the file of that name was read as; or what is said of its fault line
abbrev pub value_in : {X : Type 0} → List ℕ → Result (X × Rest) ℕ → Result X SaidValue
value_in name (Ok read) = Ok read.0
value_in name (Err number) = Err (malformed_said name number)

-- the value that the file of that name is read as; or what is said of the first of these tests that
-- fails: it is held and not too long, and then it is of its form
unfoldable pub named_in : {X : Type 0} → (Rest → Result (X × Rest) ℕ) → Files → List ℕ
    → Result X SaidValue
named_in read files name = begun_in name (get files name) >>= λ file. value_in name (read file)

-- ---- what is answered of a file

-- what is said of a file that can't be worked on. After a failure of the outside or want of memory
-- nothing is said
abbrev pub said_of_unread : Unread → Option SaidValue
said_of_unread (Said said) = Some said
said_of_unread Failed = None
said_of_unread NoMemory = None

-- what a file that wasn't read comes to: something is said, or the command is stopped
abbrev pub said_or_stopped : Unread → Result SaidValue OutsideErr
said_or_stopped (Said said) = Ok said
said_or_stopped Failed = Err outside.Failed
said_or_stopped NoMemory = Err outside.NoMemory

-- ---- the same by the bytes of the files

-- the file of that name holds this text, which is not too long
pub record IsFile (files : Files) (name text : List ℕ) : Type 0 where
  pub held : get files name ≡ Some text
  pub short : length text ≤ 2 ^ 30

-- the file of that name holds the text of this value
pub record IsFileOf {X : Type 0} (IsValue : X → Type 0) (text : X → List ℕ) (files : Files)
    (name : List ℕ) (value : X) : Type 0 where
  pub right : IsValue value
  pub file : IsFile files name (text value)

-- what is said of a file that isn't held or is too long
abbrev pub unheld_said : List ℕ → Option (List ℕ) → Option SaidValue
unheld_said name file = result_err (begun_in name file)

-- what is said of one that is held, and isn't of the form of that table
abbrev pub faulty_said : {Place : Type 0} → Table Place → List ℕ → Option (List ℕ)
    → Option SaidValue
faulty_said table name None = None
faulty_said table name (Some bytes) = option_map (malformed_said name) (fault_line table bytes)
