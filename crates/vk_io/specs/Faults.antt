-- Counts of faults, and the calls of an object in memory that is told which of them fail.
use Rattle.std.specs.Prelude.{◌≡◌, ◌≢◌, ℕ, ◌+◌, ◌-◌, ◌^◌, ◌≤◌, ◌==◌, ◌↔◌, min, List, [], ◌∷◌, ◌++◌, Bool, IsTrue, IsErrOf, Result, Ok, Err, if◌then◌else◌}
use Rattle.std.specs.List.{list_any}
use Rattle.vk_io.specs.declared.errors.OutsideErr.{OutsideErr}
use Rattle.vk_io.specs.declared.errors.OutsideErr.TheVariants.{Failed, NoMemory}

-- one more, or the greatest u64 where the number stands there
abbrev pub one_more : ℕ → ℕ
one_more n = min (n + 1) (2 ^ 64 - 1)

-- a count of faults rose, or it stands at the greatest u64
abbrev pub Rose : ℕ → ℕ → Type 0
Rose before now = one_more before ≤ now

-- a call that answers this error raised the count, and any other left it as it was
abbrev pub Causes : {T E : Type 0} → E → Result T E → ℕ → ℕ → Type 0
Causes fault (Ok value) old new = new ≡ old
Causes fault (Err refusal) old new = (refusal ≡ fault → Rose old new)
    × (refusal ≢ fault → new ≡ old)

-- a call that answers no such error left the count as it was
abbrev pub MayCause : {T E : Type 0} → E → Result T E → ℕ → ℕ → Type 0
MayCause fault (Ok value) old new = new ≡ old
MayCause fault (Err refusal) old new = refusal ≢ fault → new ≡ old

-- a refusal of the outside in the words of another error
abbrev pub told_as : {E : Type 0} → E → E → OutsideErr → E
told_as failed no_memory Failed = failed
told_as failed no_memory NoMemory = no_memory

-- the calls of an object in memory: how many there were, which are to fail, and how many did
pub record Calls : Type 0 where
  pub made : ℕ
  pub failing : List ℕ
  pub faults : ℕ

-- the same calls, of which the one of that number is to fail too
abbrev pub fails_too : ℕ → Calls → Calls
fails_too call calls = record calls { failing = calls.failing ++ call ∷ [] }

-- whether the next call is one that is to fail
abbrev pub fails_next : Calls → Bool
fails_next calls = list_any (λ n. n == one_more calls.made) calls.failing

-- the count after the next call
abbrev pub after_call : Calls → Calls
after_call calls = record calls {
  made = one_more calls.made;
  faults = if fails_next calls then one_more calls.faults else calls.faults;
}

-- a call that answers so was counted: it failed where it was to fail, and nowhere else
pub record CountsCall {T : Type 0} (result : Result T OutsideErr) (old new : Calls) : Type 0 where
  pub fails : IsErrOf result Failed ↔ IsTrue (fails_next old)
  pub counted : new ≡ after_call old
  pub causes : Causes Failed result old.faults new.faults
