-- What a refusal from below is to the caller of a keeper: want of memory is told as that, and all
-- else is a fault of the store.
use Rattle.std.specs.Prelude.{Result, Ok, Err}
use Rattle.sqlite.specs.declared.error.Error.{Error}
use Rattle.sqlite.specs.declared.error.Error.TheVariants.{SqliteFailure}
use Rattle.sqlite.specs.declared.error.ErrorCode.TheVariants.{OutOfMemory}
use Rattle.vk_io.specs.declared.errors.OutsideErr.{OutsideErr}
use Rattle.vk_io.specs.declared.errors.OutsideErr.TheVariants.{Failed, NoMemory}
use Rattle.vk_lines.specs.declared.errors.ReadErr.{ReadErr}
use Rattle.vk_lines.specs.declared.errors.ReadErr.TheVariants as text
use Rattle.vk_lines.specs.declared.errors.StartErr.{StartErr}
use Rattle.vk_lines.specs.declared.errors.StartErr.TheVariants as start

-- of a statement, or of a column
abbrev pub statement_refusal : Error → OutsideErr
statement_refusal (SqliteFailure OutOfMemory) = NoMemory
statement_refusal _ = Failed

-- of a stored text, before its first line and in it
abbrev pub start_refusal : StartErr → OutsideErr
start_refusal start.NoMemory = NoMemory
start_refusal _ = Failed

abbrev pub text_refusal : ReadErr → OutsideErr
text_refusal text.NoMemory = NoMemory
text_refusal _ = Failed

-- where a reading is refused, and not for want of memory, no such value is there
abbrev pub MissesNone : {T X : Type 0} → (X → Type 0) → Result T OutsideErr → Type 0
MissesNone IsThere (Ok value) = Unit {0}
MissesNone IsThere (Err NoMemory) = Unit {0}
MissesNone {X = X} IsThere (Err Failed) = (x : X) → ¬ IsThere x
