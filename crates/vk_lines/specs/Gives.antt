-- What is answered, held against what a definition gives: a value, or the first fault.
use Rattle.std.specs.Prelude.{◌≡◌, Option, Some, None, Result, Ok, Err}

-- a refusal that tells a fault is the definition's. One that tells none, as after a failure of the
-- outside or want of memory, says nothing
abbrev pub Refuses : {X F : Type 0} → Option F → Result X F → Type 0
Refuses (Some fault) expected = expected ≡ Err fault
Refuses None expected = Unit {0}

-- what is answered is what the definition gives, where `fault_of` is the fault that a refusal tells
abbrev pub Gives : {T E X F : Type 0} → (E → Option F) → (T → X) → Result T E → Result X F → Type 0
Gives fault_of value (Ok x) expected = expected ≡ Ok (value x)
Gives fault_of value (Err refusal) expected = Refuses (fault_of refusal) expected
