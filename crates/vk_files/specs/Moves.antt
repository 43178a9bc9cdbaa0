-- Bytes that move from a reader which can be placed.
use Rattle.std.specs.Prelude.{◌≡◌, ℕ, ◌<◌, List, length, Option, Some, IfSome}
use Rattle.std.specs.Io.KnownBytes.{Consumes, IsAtEnd}

-- the reader went to the place, and from there it gave these bytes: fewer than there was room for
-- only at its end
pub record GivesFrom {F : Type 0} (position : F → Option ℕ) (remaining : F → Option (List ℕ))
    (at room : ℕ) (given : List ℕ) (old new : F) : Type 0 where
  pub placed : F
  pub moved : IfSome (position old) (λ _. position placed ≡ Some at)
  pub gave : Consumes (remaining placed) (remaining new) given
  pub ended : length given < room → IsAtEnd (remaining new)
