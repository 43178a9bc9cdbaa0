-- A call that only reads from a shelf.
use Rattle.std.specs.Prelude.{◌≡◌, ℕ, Option, Result}
use Rattle.vk_io.specs.Faults.{Causes}
use Rattle.vk_io.specs.Files.{Files}

-- what is held stays, and the count of faults rises exactly where this error is answered
pub record OnlyReads {S T E : Type 0} (modelled : S → Option Files) (count : S → ℕ) (fault : E)
    (result : Result T E) (old new : S) : Type 0 where
  pub held : modelled new ≡ modelled old
  pub causes : Causes fault result (count old) (count new)
