-- The outcome as a function is the one outcome by maxima.
use Rattle.std.proofs.Common.{◌≡◌, ◌≢◌, ℕ, zero, suc, ◌+◌, ◌-◌, ◌<◌, ◌≤◌, List, [], ◌∷◌, take, drop, length, eqb, false, refl, sym, ap, ◌∙◌, arith, inl, inr, length-append, length-drop}
use Rattle.std.specs.Prelude.{slice_index}
use Rattle.std.proofs.Math.Nat.{le-max_left}
use Rattle.std.proofs.lemmas.Bool.{cases_lt, eq-eqb}
use Rattle.std.proofs.lemmas.Bool.Decides.{nat_tests}
use Rattle.std.proofs.lemmas.List.{get_or_append_left, get_or-append_right, get_or-take, get_or-drop, length-take-le}
use Rattle.std.proofs.lemmas.List.Sums.{fails_before_first, passes_at_first}
use Rattle.vk_vickrey.specs.Outcomes.{bid_at, IsVickreyOutcome}
use Rattle.vk_vickrey.specs.OutcomeLaws.{all_first}
use Rattle.vk_job.specs.Outcome.{greatest, place_of_greatest, all_but, outcome_of}

-- ---- the greatest

pub at_most_greatest : (numbers : List ℕ) (k : ℕ) → k < length numbers
    → slice_index numbers k ≤ greatest numbers
at_most_greatest [] k lt = absurd (omega arith)
at_most_greatest (x ∷ xs) zero lt = le-max_left x (greatest xs)
at_most_greatest (x ∷ xs) (suc k) lt =
    let rest : slice_index xs k ≤ greatest xs = at_most_greatest xs k (omega arith) in
    omega arith

-- one of them is it
pub holder_of_greatest : (numbers : List ℕ) → 1 ≤ length numbers → (k : ℕ) × (k < length numbers)
    × (slice_index numbers k ≡ greatest numbers)
holder_of_greatest [] some = absurd (omega arith)
holder_of_greatest (x ∷ []) some = (0, omega arith, omega arith)
holder_of_greatest (x ∷ y ∷ ys) some =
    let rest = holder_of_greatest (y ∷ ys) (omega arith) in
    elim (cases_lt x (greatest (y ∷ ys))) [
      | inl less ↦ (suc rest.0, omega (arith, rest.1), omega (arith, rest.2))
      | inr more ↦ (0, omega arith, omega arith)
    ]

-- the place of the first of the greatest
place_within : (bids : List ℕ) → 1 ≤ length bids → place_of_greatest bids < length bids
place_within bids some =
    let test = λ (number : ℕ). eqb number (greatest bids) in
    let holder = holder_of_greatest bids some in
    elim (cases_lt (place_of_greatest bids) (length bids)) [
      | inl within ↦ within
      | inr past ↦
          (let fails : eqb (slice_index bids holder.0) (greatest bids)
          ≡ false = fails_before_first test bids holder.0 0 (omega (arith, holder.1)) in
          let passes = eq-eqb (slice_index bids holder.0) (greatest bids) holder.2 in
          cc (fails, passes))
    ]

place_holds : (bids : List ℕ) → 1 ≤ length bids
    → slice_index bids (place_of_greatest bids) ≡ greatest bids
place_holds bids some =
    let passes = passes_at_first (λ number. eqb number (greatest bids)) bids 0
    (place_within bids some) in
    grind (arith, nat_tests, passes)

place_first : (bids : List ℕ) (k : ℕ) → k < place_of_greatest bids → k < length bids
    → slice_index bids k < greatest bids
place_first bids k before within =
    let fails = fails_before_first (λ number. eqb number (greatest bids)) bids k 0 before in
    let most = at_most_greatest bids k within in
    grind (arith, nat_tests, fails)

-- ---- all but one

length_all_but : (place : ℕ) (numbers : List ℕ) → place < length numbers
    → length (all_but place numbers) ≡ length numbers - 1
length_all_but place numbers within =
    length-append (take place numbers) (drop (place + 1) numbers)
    ∙ omega (arith, length-take-le place numbers (omega arith), length-drop (place + 1) numbers)

before_place : (place : ℕ) (numbers : List ℕ) (k : ℕ) → place < length numbers → k < place
    → slice_index (all_but place numbers) k ≡ slice_index numbers k
before_place place numbers k within before =
    let long = length-take-le place numbers (omega arith) in
    get_or_append_left (take place numbers) (drop (place + 1) numbers) 0 k (omega arith)
    ∙ get_or-take place numbers k 0 before

after_place : (place : ℕ) (numbers : List ℕ) (k : ℕ) → place < length numbers → place ≤ k
    → slice_index (all_but place numbers) k ≡ slice_index numbers (k + 1)
after_place place numbers k within after =
    let next : place + 1 + (k - place) ≡ k + 1 = omega arith in
    get_or-append_right (take place numbers) (drop (place + 1) numbers) place k 0
    (length-take-le place numbers (omega arith)) after
    ∙ get_or-drop (place + 1) numbers (k - place) 0
    ∙ ap (slice_index numbers) next

-- each of the others is at most their greatest, and one of them is it
others_at_most : (place : ℕ) (numbers : List ℕ) (k : ℕ) → place < length numbers
    → k < length numbers → k ≢ place → slice_index numbers k ≤ greatest (all_but place numbers)
others_at_most place numbers k within lt other =
    let long = length_all_but place numbers within in
    elim (cases_lt k place) [
      | inl before ↦
          (let same = before_place place numbers k within before in
          omega (arith, at_most_greatest (all_but place numbers) k (omega arith)))
      | inr after ↦
          (let back : k - 1 + 1 ≡ k = omega (arith, other) in
          let same = after_place place numbers (k - 1) within (omega (arith, other))
          ∙ ap (slice_index numbers) back in
          omega (arith, at_most_greatest (all_but place numbers) (k - 1) (omega (arith, other))))
    ]

holder_of_other : (place : ℕ) (numbers : List ℕ) → place < length numbers → 2 ≤ length numbers
    → (k : ℕ) × (k < length numbers) × (k ≢ place)
    × (slice_index numbers k ≡ greatest (all_but place numbers))
holder_of_other place numbers within many =
    let long = length_all_but place numbers within in
    let holder = holder_of_greatest (all_but place numbers) (omega arith) in
    let k : ℕ = holder.0 in
    let lt : k < length (all_but place numbers) = holder.1 in
    elim (cases_lt k place) [
      | inl before ↦ (
        k,
        omega arith,
        (λ e. omega arith),
        sym (before_place place numbers k within before) ∙ holder.2,
      )
      | inr after ↦ (
        k + 1,
        omega arith,
        (λ e. omega arith),
        sym (after_place place numbers k within after) ∙ holder.2,
      )
    ]

none_but : (place : ℕ) (numbers : List ℕ) → place < length numbers → length numbers ≡ 1
    → greatest (all_but place numbers) ≡ 0
none_but place numbers within one =
    no_numbers (all_but place numbers) (length_all_but place numbers within ∙ omega arith)
  where
    no_numbers : (xs : List ℕ) → length xs ≡ 0 → greatest xs ≡ 0
    no_numbers [] none = refl
    no_numbers (x ∷ xs) none = absurd (omega arith)

-- ---- the outcome

-- the winner's bid is the greatest
pub outcome_bids_most : (bids : List ℕ) → 1 ≤ length bids
    → bid_at bids (outcome_of bids).position ≡ greatest bids
unfolding outcome_of
outcome_bids_most bids some =
    let back : place_of_greatest bids + 1 - 1 ≡ place_of_greatest bids = omega arith in
    ap (slice_index bids) back ∙ place_holds bids some

pub outcome_is_vickrey : (bids : List ℕ) → 1 ≤ length bids
    → IsVickreyOutcome bids (outcome_of bids).position (outcome_of bids).price
unfolding outcome_of
outcome_is_vickrey bids some =
    let place = place_of_greatest bids in
    let within = place_within bids some in
    all_first bids place (greatest bids) (greatest (all_but place bids)) (record {
      inside = within;
      is_best = sym (place_holds bids some);
      most = at_most_greatest bids;
      first = λ j before. place_first bids j before (omega (arith, within));
      alone = none_but place bids within;
      within = λ j lt ne. others_at_most place bids j within lt ne;
      held = holder_of_other place bids within;
    })
