-- Which calls of a keeper are one `get` and after it at most one `put`.
use Rattle.std.proofs.Common.{◌≡◌, ◌+◌, ◌-◌, ◌^◌, ◌<◌, ◌≤◌, ◌⊎◌, inl, inr, List, [], ◌∷◌, length, refl, sym, subst, arith}
use Rattle.vk_io.specs.Faults.{one_more}
use Rattle.vk_keeper.specs.Turns.{Call, Get, Put, Turns, turns_after, turns_after_all, GetsOnce}

one_call : (call : Call) (old : Turns) → (turns_after call old).calls ≡ one_more old.calls
one_call Get old = refl
one_call Put old = refl

-- below the greatest number each call counts
all_counted : (calls : List Call) (old : Turns) → old.calls + length calls < 2 ^ 64
    → (turns_after_all calls old).calls ≡ old.calls + length calls
all_counted [] old below = omega arith
all_counted (call ∷ later) old below =
    let next = one_call call old in
    let rest = all_counted later (turns_after call old) (omega (arith, next)) in
    omega (arith, next, rest)

-- other calls leave another number of calls, or another last `get`
pub only_these : (calls : List Call) (old : Turns) → old.last_get ≤ old.calls
    → old.calls + length calls < 2 ^ 64 - 1 → GetsOnce old (turns_after_all calls old)
    → (calls ≡ Get ∷ []) ⊎ (calls ≡ Get ∷ Put ∷ [])
only_these [] old before below once = let last : old.last_get ≡ one_more old.calls = once.get in
    absurd (omega arith)
only_these (Get ∷ []) old before below once = inl refl
only_these (Put ∷ []) old before below once = let last : old.last_get ≡ one_more old.calls =
    once.get in absurd (omega arith)
only_these (Get ∷ Put ∷ []) old before below once = inr refl
only_these (Get ∷ Get ∷ []) old before below once = let last : one_more (one_more old.calls)
    ≡ one_more old.calls = once.get in absurd (omega arith)
only_these (Put ∷ Get ∷ []) old before below once = let last : one_more (one_more old.calls)
    ≡ one_more old.calls = once.get in absurd (omega arith)
only_these (Put ∷ Put ∷ []) old before below once = let last : old.last_get ≡ one_more old.calls =
    once.get in absurd (omega arith)
only_these (first ∷ second ∷ third ∷ later) old before below once =
    let count = all_counted (first ∷ second ∷ third ∷ later) old (omega arith) in
    absurd (omega (arith, once.few, count))

pub these_do : (calls : List Call) (old : Turns) → (calls ≡ Get ∷ []) ⊎ (calls ≡ Get ∷ Put ∷ [])
    → GetsOnce old (turns_after_all calls old)
these_do calls old (inl same) =
    subst (λ made. GetsOnce old (turns_after_all made old)) (sym same)
    (record { get = refl; few = omega arith })
these_do calls old (inr same) =
    subst (λ made. GetsOnce old (turns_after_all made old)) (sym same)
    (record { get = refl; few = omega arith })
