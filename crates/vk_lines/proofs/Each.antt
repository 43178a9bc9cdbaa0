-- Each value of a list is right after those before it, or at its place: two ways to say the same.
use Rattle.std.proofs.Common.{◌≡◌, ℕ, zero, suc, ◌+◌, List, [], ◌∷◌, ◌++◌, length, slice_get, slice_index_or, Some, refl, sym, ap, ◌∙◌, arith, inl, inr, subst, append_assoc, append-nil, length-append}
use Rattle.std.proofs.lemmas.Bool.{cases_lt}
use Rattle.std.proofs.lemmas.List.{get_or_append_left, get_or_push}
use Rattle.std.proofs.lemmas.Option.{same_Some}
use Rattle.vk_lines.specs.Forms.{EachAfter, EachNumbered}

-- a value more
pub each_push : {X : Type 0} (P : List X → X → Type 0) (before xs : List X) (x : X)
    → EachAfter P before xs → P (before ++ xs) x → EachAfter P before (xs ++ x ∷ [])
each_push {X} P before [] x each last =
    let Q : List X → Type 0 = λ b. P b x in (subst Q (append-nil before) last, tt)
each_push {X} P before (y ∷ xs) x each last =
    let Q : List X → Type 0 = λ b. P b x in (
      each.0,
      each_push P (before ++ y ∷ []) xs x each.1
          (subst Q (sym (append_assoc before (y ∷ []) xs)) last),
    )

-- from each in turn to each at its place
pub at_from_each : {X : Type 0} (P : ℕ → X → Type 0) (before xs : List X)
    → EachAfter (λ b. P (length b)) before xs
    → (i : ℕ) (x : X) → slice_get xs i ≡ Some x → P (length before + i) x
at_from_each P before [] each i x some = cc
at_from_each {X} P before (y ∷ xs) each zero x some =
    let Q : ℕ → Type 0 = λ n. P n x in
    let R : X → Type 0 = λ v. P (length before) v in
    let same : length before ≡ length before + 0 = omega arith in
    subst Q same (subst R (same_Some y x some) each.0)
at_from_each P before (y ∷ xs) each (suc i) x some =
    let Q : ℕ → Type 0 = λ n. P n x in
    let same : length (before ++ y ∷ []) + i ≡ length before + suc i =
    omega (arith, length-append before (y ∷ [])) in
    subst Q same (at_from_each P (before ++ y ∷ []) xs each.1 i x some)

pub each_from_at : {X : Type 0} (P : ℕ → X → Type 0) (before xs : List X)
    → ((i : ℕ) (x : X) → slice_get xs i ≡ Some x → P (length before + i) x)
    → EachAfter (λ b. P (length b)) before xs
each_from_at P before [] at = tt
each_from_at P before (y ∷ xs) at =
    let Q : ℕ → Type 0 = λ n. P n y in
    let first : length before + 0 ≡ length before = omega arith in
    let same : (i : ℕ) → length before + suc i ≡ length (before ++ y ∷ []) + i =
    λ i. omega (arith, length-append before (y ∷ [])) in (
      subst Q first (at zero y refl),
      each_from_at P (before ++ y ∷ []) xs
          (λ i x some. let R : ℕ → Type 0 = λ n. P n x in subst R (same i) (at (suc i) x some)),
    )

-- no value, and a value more, each right by its number
pub each_none : {X : Type 0} (P : ℕ → X → Type 0) (xs : List X) → xs ≡ [] → EachNumbered P xs
each_none P xs none k x within = let empty : length xs ≡ 0 = ap length none in absurd (omega arith)

pub one_longer : {X : Type 0} (xs ys : List X) (x : X) (number : ℕ) → length xs ≡ number
    → ys ≡ xs ++ x ∷ [] → length ys ≡ number + 1
one_longer xs ys x number count pushed = ap length pushed ∙ length-append xs (x ∷ [])
    ∙ ap (λ n. n + 1) count

pub each_more : {X : Type 0} (P : ℕ → X → Type 0) (xs ys : List X) (x : X) (number : ℕ)
    → length xs ≡ number → ys ≡ xs ++ x ∷ []
    → EachNumbered P xs → P number x → EachNumbered P ys
each_more {X} P xs ys x number count pushed each right k d within =
    let Q : X → Type 0 = λ v. P k v in
    let R : ℕ → Type 0 = λ n. P n x in
    let S : List X → Type 0 = λ all. P k (slice_index_or all k d) in
    let long : length ys ≡ length xs + 1 = ap length pushed ∙ length-append xs (x ∷ []) in
    subst S (sym pushed) (elim (cases_lt k (length xs)) [
      | inl less ↦ subst Q (sym (get_or_append_left xs (x ∷ []) d k less)) (each k d less)
      | inr last ↦
          let same : number ≡ k = omega arith in
          subst Q (sym (get_or_push xs x d k (count ∙ same))) (subst R same right)
    ])
