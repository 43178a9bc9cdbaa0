-- The lists behind a court: what a write changes, and how many women are free.
use Rattle.std.proofs.Common.{ℕ, suc, ◌+◌, ◌*◌, ◌<◌, ◌≤◌, ◌≡◌, ◌≢◌, cond, Option, Some, None, is_none, List, [], ◌∷◌, ◌⊎◌, inl, inr, length, slice_set, refl, arith}
use Rattle.std.proofs.lemmas.List.Sums.{sum_by-set, sum_by-cons}
use Rattle.std.proofs.lemmas.Nat.{same_from_place}
use Rattle.vk_matching.specs.Courting.{free, held_by}

-- another question stands at another place
pub other_place : (size suitor woman man other : ℕ) → woman < size → other < size
    → (man ≢ suitor) ⊎ (other ≢ woman) → man * size + other ≢ suitor * size + woman
other_place size suitor woman man other is_woman is_other differs same =
    let parts = same_from_place man other suitor woman size is_other is_woman same in
    elim differs [ inl man_differs ↦ man_differs parts.0 | inr differs ↦ differs parts.1 ]

-- where a woman is free, there is one
pub some_free : (holders : List (Option ℕ)) → 1 ≤ free holders
    → (woman : ℕ) × (woman < length holders) × (held_by holders woman ≡ None)
some_free [] some = absurd (omega arith)
some_free (None ∷ rest) some = (0, omega arith, refl)
some_free (Some man ∷ rest) some =
    let fewer = sum_by-cons (λ holder. cond (is_none holder) 1 0) (Some man) rest in
    let found = some_free rest (omega arith) in
    (suc found.0, omega (arith, found.1), found.2)

-- who is free, before and after she takes a man
pub free_after : (holders : List (Option ℕ)) (woman man : ℕ) → woman < length holders
    → free (slice_set holders woman (Some man)) + cond (is_none (held_by holders woman)) 1 0
    ≡ free holders
free_after holders woman man inside =
    let e : free (slice_set holders woman (Some man)) + cond (is_none (held_by holders woman)) 1 0
    ≡ free holders + 0 = sum_by-set (λ holder. cond (is_none holder) 1 0) holders woman (Some man)
    None inside in
    omega arith
