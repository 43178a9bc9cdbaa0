-- One step after another: the first that fails is the end of all.
use Rattle.std.specs.Prelude.{Option, Some, None, Result, Ok, Err}

-- the first fault is the fault
infixl 10 ◌>>=◌
abbrev pub ◌>>=◌ : {A B F : Type 0} → Result A F → (A → Result B F) → Result B F
Ok x >>= f = f x
Err fault >>= f = Err fault

-- a value that may not be there: the first that isn't ends it
infixl 10 ◌>>?◌
abbrev pub ◌>>?◌ : {A B : Type 0} → Option A → (A → Option B) → Option B
None >>? f = None
Some x >>? f = f x
