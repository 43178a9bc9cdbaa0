-- What a call of an outlet takes.
use Rattle.std.specs.Prelude.{◌≡◌, ℕ, List, ◌++◌, take, Result, Ok, Err}

-- the first bytes of the piece, as many as it answers; refused, none
abbrev pub TakesSome : {E : Type 0} → List ℕ → Result ℕ E → List ℕ → List ℕ → Type 0
TakesSome piece (Ok count) old new = new ≡ old ++ take count piece
TakesSome piece (Err refusal) old new = new ≡ old
