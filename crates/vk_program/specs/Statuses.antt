-- With which status the program ends, where a step comes behind a command.
use Rattle.std.specs.Prelude.{ℕ, ◌==◌, ◌||◌, if◌then◌else◌, Result, Ok, Err}
use Rattle.vk_io.specs.declared.errors.OutsideErr.{OutsideErr}
use Rattle.vk_program.specs.Refusals.{stopped_status}

-- the status before stands where the step was done, and where it is 6 or 9 already. Else it is that
-- of the step's refusal: 6 for a fault, 9 for want of memory
abbrev pub status_behind : Result Unit OutsideErr → ℕ → ℕ
status_behind (Ok done) status = status
status_behind (Err refusal) status =
    if status == 6 || status == 9 then status else stopped_status refusal
