-- Errors of the system, each of which is counted.
use Rattle.std.specs.Prelude.{◌≡◌, ℕ, Result, Ok, Err}
use Rattle.vk_io.specs.Faults.{one_more}
use Rattle.vk_io.specs.declared.errors.OutsideErr.{OutsideErr}
use Rattle.vk_io.specs.declared.errors.OutsideErr.TheVariants.{Failed}

-- an error is a fault and is counted once, and nothing else is counted
abbrev pub CountsOnce : {T : Type 0} → Result T OutsideErr → ℕ → ℕ → Type 0
CountsOnce (Ok value) old new = new ≡ old
CountsOnce (Err refusal) old new = (refusal ≡ Failed) × (new ≡ one_more old)
