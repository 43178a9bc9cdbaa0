-- How an answer tells of several counts of faults.
use Rattle.std.specs.Prelude.{◌≡◌, ◌≢◌, ℕ, Result, Ok, Err, ◌⊎◌}
use Rattle.vk_io.specs.Faults.{Rose}

-- a call that answers this error raised one of two counts, and any other left both as they were
abbrev pub CausesTwo : {T E : Type 0} → E → Result T E → ℕ → ℕ → ℕ → ℕ → Type 0
CausesTwo fault (Ok value) old new before after = (new ≡ old) × (after ≡ before)
CausesTwo fault (Err refusal) old new before after =
    (refusal ≡ fault → Rose old new ⊎ Rose before after)
    × (refusal ≢ fault → (new ≡ old) × (after ≡ before))

-- a call that answers this error raised one of three counts, and any other left all of them as they
-- were
abbrev pub CausesThree : {T E : Type 0} → E → Result T E → ℕ → ℕ → ℕ → ℕ → ℕ → ℕ → Type 0
CausesThree fault (Ok value) old new before after first last = (new ≡ old) × (after ≡ before)
    × (last ≡ first)
CausesThree fault (Err refusal) old new before after first last =
    (refusal ≡ fault → Rose old new ⊎ Rose before after ⊎ Rose first last)
    × (refusal ≢ fault → (new ≡ old) × (after ≡ before) × (last ≡ first))
