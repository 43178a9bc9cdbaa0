-- The pairs of a man and a woman other than his own, and where their ranks stand.
use Rattle.std.specs.Prelude.{ℕ, ◌+◌, ◌-◌, ◌*◌, ◌%◌, ◌<◌, ◌≤◌, ◌≡◌, ◌≢◌, List}
use Rattle.std.proofs.Common.{ap, ◌∙◌, arith, inl, inr, suc, mul-le-mul_right, suc-mul}
use Rattle.std.proofs.lemmas.Bool.{cases_lt}
use Rattle.std.proofs.lemmas.Nat.{div-mul-add, mod-mul-add, mul-add-lt}
use Rattle.std.proofs.Math.Nat.{div-lt_iff_lt-mul}
use Rattle.vk_range.specs.Others.{other, other_within, other_not, other_of}
use Rattle.vk_matching.specs.Stability.{IsPerson, IsPermutation, his_place, her_place, wife_of}
use Rattle.vk_matching.specs.MatchingPlans.{pair_count, man_at, woman_at}

-- a rank's place among those of one person after another
place_within : (size person other : ℕ) → IsPerson size person → IsPerson size other
    → (person - 1) * size + (other - 1) < size * size
place_within size person other is_person is_other =
    mul-add-lt (person - 1) size (other - 1) size
    (omega (arith, is_person.some, is_person.within))
    (omega (arith, is_other.some, is_other.within))

pub his_place_within : (size man woman : ℕ) → IsPerson size man → IsPerson size woman
    → his_place size man woman < 2 * size * size
his_place_within size man woman is_man is_woman =
    omega (arith, place_within size man woman is_man is_woman)

pub her_place_within : (size woman man : ℕ) → IsPerson size woman → IsPerson size man
    → her_place size woman man < 2 * size * size
her_place_within size woman man is_woman is_man =
    omega (arith, place_within size woman man is_woman is_man)

-- where there is a pair, there is a woman other than a man's own
some_other : (size pair : ℕ) → pair < pair_count size → 0 < size - 1
some_other size pair h = elim (cases_lt 0 (size - 1)) [
  | inl some ↦ some
  | inr none ↦
      (let nobody : size - 1 ≡ 0 = omega arith in
      absurd (omega (arith, ap (λ n. size * n) nobody)))
]

module _ (size : ℕ) (matching : List ℕ) (permutation : IsPermutation size matching) where
  pub wife_is : (man : ℕ) → IsPerson size man → IsPerson size (wife_of matching man)
  wife_is man is_man = permutation.are_persons (man - 1) 0
      (omega (arith, permutation.one_each, is_man.some, is_man.within))

  -- the man and the woman of a pair
  pub is_man : (pair : ℕ) → pair < pair_count size → IsPerson size (man_at size pair)
  is_man pair h =
      let below = (div-lt_iff_lt-mul {k = size - 1} {x = pair} {y = size}
      (some_other size pair h)).1 h in
      record { some = omega arith; within = omega arith }

  pub is_woman : (pair : ℕ) → pair < pair_count size → IsPerson size (woman_at size matching pair)
  is_woman pair h =
      let wife = wife_of matching (man_at size pair) in
      let is_wife = wife_is (man_at size pair) (is_man pair h) in
      let within =
      other_within size (wife - 1) (pair % (size - 1)) (omega (arith, is_wife.some, is_wife.within))
      (omega (arith, some_other size pair h)) in
      record { some = omega arith; within = omega arith }

  pub is_other : (pair : ℕ) → pair < pair_count size
      → woman_at size matching pair ≢ wife_of matching (man_at size pair)
  is_other pair h same =
      let wife = wife_of matching (man_at size pair) in
      let is_wife = wife_is (man_at size pair) (is_man pair h) in
      other_not (wife - 1) (pair % (size - 1)) (omega (arith, is_wife.some))

  -- each of them is one of the pairs
  pub pair_of : (man woman : ℕ) → IsPerson size man → IsPerson size woman
      → woman ≢ wife_of matching man
      → (pair : ℕ) × (pair < pair_count size) × (man_at size pair ≡ man)
      × (woman_at size matching pair ≡ woman)
  pair_of man woman is_man is_woman differs =
      let wife = wife_of matching man in
      let is_wife = wife_is man is_man in
      let others = size - 1 in
      let found =
      other_of size (wife - 1) (woman - 1) (omega (arith, is_woman.some, is_woman.within))
      (omega (arith, is_wife.some, is_wife.within))
      (λ same. differs (omega (arith, is_woman.some, is_wife.some))) in
      let pair = (man - 1) * others + found.0 in
      let row = div-mul-add (man - 1) others found.0 found.1 in
      let column = mod-mul-add (man - 1) others found.0 found.1 in
      let rows : suc (man - 1) * others ≤ size * others =
      mul-le-mul_right others (omega (arith, is_man.some, is_man.within)) in
      let same_man : man_at size pair ≡ man = omega (arith, row, is_man.some) in (
        pair,
        omega (arith, suc-mul (man - 1) others, found.1),
        same_man,
        ap (λ m. other (wife_of matching m - 1) (pair % others) + 1) same_man
            ∙ ap (λ n. other (wife - 1) n + 1) column ∙ omega (arith, found.2, is_woman.some),
      )
