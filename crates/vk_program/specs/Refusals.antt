-- What it is that a house was not opened.
use Rattle.std.specs.Prelude.{ℕ}
use Rattle.std.specs.declared.io.ErrorKind.TheVariants as kind
use Rattle.sqlite.specs.declared.error.Error.TheVariants.{SqliteFailure}
use Rattle.sqlite.specs.declared.error.ErrorCode.TheVariants as code
use Rattle.vk_io.specs.declared.errors.OutsideErr.{OutsideErr}
use Rattle.vk_io.specs.declared.errors.OutsideErr.TheVariants.{Failed, NoMemory}
use Rattle.vk_keeper_sql.specs.declared.errors.OpenErr.TheVariants as refused
use Rattle.vk_program.specs.declared.house.Unopened.{Unopened}
use Rattle.vk_program.specs.declared.house.Unopened.TheVariants.{File, Database, Store}

-- to whom asks its keeper: want of memory, or else a fault
abbrev pub unopened_outside : Unopened → OutsideErr
unopened_outside (File kind.OutOfMemory) = NoMemory
unopened_outside (Database (SqliteFailure code.OutOfMemory)) = NoMemory
unopened_outside (Store refused.NoMemory) = NoMemory
unopened_outside other = Failed

-- the status of a program that was stopped so
abbrev pub stopped_status : OutsideErr → ℕ
stopped_status Failed = 6
stopped_status NoMemory = 9
