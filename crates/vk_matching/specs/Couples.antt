-- Whom a woman is matched with.
use Rattle.std.specs.Prelude.{ℕ, ◌+◌, ◌-◌, ◌<◌, ◌≤◌, ◌≡◌, ◌≢◌, ◌⊎◌, ◌==◌, if◌then◌else◌, List, ◌∷◌, All, AllPairs, length, slice_index}
use Rattle.std.specs.List.{position_or_len}
use Rattle.std.proofs.Common.{sym, ap, ◌∙◌, subst, arith, inl, inr, zero, suc}
use Rattle.std.proofs.lemmas.Bool.{cases_lt, eqb-true, eqb-false, eq-eqb, ne_eqb}
use Rattle.std.proofs.lemmas.Bool.Decides.{eqb_tells}
use Rattle.std.proofs.lemmas.List.Sums.{position_or_len_is, passes_at_first, fails_before_first}
use Rattle.vk_range.specs.Sets.{listed}
use Rattle.vk_range.specs.SetLaws.{at_listed}
use Rattle.vk_matching.specs.Stability.{IsPerson, IsPermutation, wife_of}

-- the man that a woman is matched with, from where she stands in the matching
abbrev pub husband_of : List ℕ → ℕ → ℕ
husband_of matching woman = position_or_len (λ wife. wife == woman) matching + 1

-- the men of women 1, 2, ..
abbrev pub husbands_of : List ℕ → List ℕ
husbands_of matching = listed (λ place. husband_of matching (place + 1)) (length matching)

-- in the place of the last person, the one behind all
module _ (size : ℕ) (f : ℕ → ℕ) where
  moved : ℕ → ℕ
  moved k = if f k == suc size then f (suc size) else f k

  moved_is : (k : ℕ) → ((f k ≡ suc size) × (moved k ≡ f (suc size)))
      ⊎ ((f k ≢ suc size) × (moved k ≡ f k))
  unfolding moved
  moved_is k = elim (eqb_tells (f k) (suc size)) [
    | inl last ↦ inl (last.1, ap (λ b. if b then f (suc size) else f k) last.0)
    | inr other ↦ inr (other.1, ap (λ b. if b then f (suc size) else f k) other.0)
  ]

-- of one more than there are persons, two are alike
crowded : (size : ℕ) (f : ℕ → ℕ) → ((k : ℕ) → k < size + 1 → IsPerson size (f k))
    → ((k l : ℕ) → k < l → l < size + 1 → f k ≢ f l) → ⊥
crowded zero f are differ =
    let first = are 0 (omega arith) in
    omega (arith, first.some, first.within)
crowded (suc n) f are differ =
    crowded n (moved n f)
    (λ k h.
    let here = are k (omega arith) in
    let behind = are (suc n) (omega arith) in
    elim (moved_is n f k) [
      | inl last ↦
          (let other : f (suc n)
          ≢ suc n = λ e. differ k (suc n) (omega arith) (omega arith) (last.0 ∙ sym e) in
          subst (IsPerson n) (sym last.1)
          (record { some = behind.some; within = omega (arith, behind.within, other) }))
      | inr kept ↦
          subst (IsPerson n) (sym kept.1)
          (record { some = here.some; within = omega (arith, here.within, kept.0) })
    ])
    (λ k l before h same. elim (moved_is n f k) [
      | inl last ↦ elim (moved_is n f l) [
        | inl last' ↦ differ k l before (omega arith) (last.0 ∙ sym last'.0)
        | inr kept' ↦ differ l (suc n) (omega arith) (omega arith) (sym kept'.1 ∙ sym same ∙ last.1)
      ]
      | inr kept ↦ elim (moved_is n f l) [
        | inl last' ↦ differ k (suc n) (omega arith) (omega arith) (sym kept.1 ∙ same ∙ last'.1)
        | inr kept' ↦ differ k l before (omega arith) (sym kept.1 ∙ same ∙ kept'.1)
      ]
    ])

-- a woman before all women of a matching
are_persons : (size woman : ℕ) (matching : List ℕ) → All (IsPerson size) matching
    → IsPerson size woman → (k : ℕ)
    → k < length matching + 1 → IsPerson size (slice_index (woman ∷ matching) k)
are_persons size woman matching are is_woman zero h = is_woman
are_persons size woman matching are is_woman (suc k) h = are k 0 (omega arith)

are_different : (woman : ℕ) (matching : List ℕ)
    → AllPairs (λ earlier later. earlier ≢ later) matching
    → ((k : ℕ) → k < length matching → slice_index matching k ≢ woman) → (k l : ℕ) → k < l
    → l < length matching + 1
    → slice_index (woman ∷ matching) k ≢ slice_index (woman ∷ matching) l
are_different woman matching differ none k zero before h = absurd (omega arith)
are_different woman matching differ none zero (suc l) before h =
    λ same. none l (omega arith) (sym same)
are_different woman matching differ none (suc k) (suc l) before h =
    differ k l 0 (omega arith) (omega arith)

module _ (size : ℕ) (matching : List ℕ) (permutation : IsPermutation size matching) where
  -- each woman stands in it
  stands : (woman : ℕ) → IsPerson size woman
      → position_or_len (λ wife. wife == woman) matching < length matching
  stands woman is_woman =
      let place = position_or_len (λ wife. wife == woman) matching in
      let none : length matching ≤ place → (k : ℕ) → k < length matching
      → slice_index matching k ≢ woman =
      λ all k h. eqb-false (slice_index matching k) woman
      (fails_before_first (λ wife. wife == woman) matching k 0 (omega arith)) in
      elim (cases_lt place (length matching)) [
        | inl h ↦ h
        | inr all ↦
            absurd (crowded size (λ k. slice_index (woman ∷ matching) k)
            (λ k h. are_persons size woman matching permutation.are_persons is_woman k
            (omega (arith, permutation.one_each)))
            (λ k l before h. are_different woman matching permutation.all_different (none all) k l
            before
            (omega (arith, permutation.one_each))))
      ]

  -- so she is matched with a man, and with no other
  pub husband_is : (woman : ℕ) → IsPerson size woman
      → IsPerson size (husband_of matching woman)
      × (wife_of matching (husband_of matching woman) ≡ woman)
  husband_is woman is_woman =
      let place = position_or_len (λ wife. wife == woman) matching in
      let inside = stands woman is_woman in
      let first : place + 1 - 1 ≡ place = omega arith in (
        record { some = omega arith; within = omega (arith, permutation.one_each) },
        ap (slice_index matching) first
            ∙ eqb-true (slice_index matching place) woman
            (passes_at_first (λ wife. wife == woman) matching 0 inside),
      )

  pub husband_alone : (man woman : ℕ) → IsPerson size man → wife_of matching man ≡ woman
      → husband_of matching woman ≡ man
  husband_alone man woman is_man is_wife =
      let place : man - 1 < length matching =
      omega (arith, permutation.one_each, is_man.some, is_man.within) in
      let first =
      position_or_len_is (λ wife. wife == woman) matching (man - 1) 0 (omega arith)
      (λ k h. ne_eqb (slice_index matching k) woman
      (λ same. permutation.all_different k (man - 1) 0 h place (same ∙ sym is_wife)))
      (λ h. eq-eqb (slice_index matching (man - 1)) woman is_wife) in
      omega (arith, first, is_man.some)

-- the list of the men has him in her place
pub husband_read : (size woman : ℕ) (matching : List ℕ) → length matching ≡ size
    → IsPerson size woman
    → slice_index (husbands_of matching) (woman - 1) ≡ husband_of matching woman
husband_read size woman matching long is =
    let place : woman - 1 + 1 ≡ woman = omega (arith, is.some) in
    at_listed (λ place. husband_of matching (place + 1)) (length matching) (woman - 1) 0
    (omega (arith, is.some, is.within))
    ∙ ap (husband_of matching) place
