-- The computed first row that isn't met is the first.
use Rattle.std.proofs.Common.{◌≡◌, ◌↔◌, ℕ, zero, suc, ◌+◌, ◌<◌, ◌⊎◌, Bool, true, false, List, [], ◌∷◌, length, slice_index, slice_index_or, Option, Some, None, refl, ◌∙◌, arith, inl, inr, add-zero}
use Rattle.std.specs.Prelude.{if◌then◌else◌}
use Rattle.std.proofs.lemmas.Bool.Decides.{nat_tests}
use Rattle.vk_plan.specs.declared.form.Form.{Form}
use Rattle.vk_row.specs.Rows.{HasSide, has_side}
use Rattle.vk_plan.specs.Forms.{no_row}
use Rattle.vk_row.specs.LaneTests.{first_false_row}

-- the test decides the side
pub side_by_test : (row : Form) (bit : Bool) (halves : List ℕ) (number : ℕ)
    → (has_side row bit halves number ≡ true) ↔ HasSide row bit halves number
side_by_test row false halves number = grind (arith, nat_tests)
side_by_test row true halves number = grind (arith, nat_tests)

-- the halves meet each row of the lists
abbrev pub Meet : Bool → List ℕ → List Form → List ℕ → Type 0
Meet bit halves rows posted =
    (k : ℕ) → k < length rows → HasSide (slice_index_or rows k no_row) bit halves
    (slice_index posted k)

-- the row at that place in the lists is the first that they don't meet
pub record Breaks (bit : Bool) (halves : List ℕ) (rows : List Form) (posted : List ℕ)
    (row : ℕ) : Type 0 where
  pub within : row < length rows
  pub before : (k : ℕ) → k < row
      → HasSide (slice_index_or rows k no_row) bit halves (slice_index posted k)
  pub broken : ¬ HasSide (slice_index_or rows row no_row) bit halves (slice_index posted row)

-- one row before them
meet_cons : (bit : Bool) (halves : List ℕ) (row : Form) (rows : List Form) (number : ℕ)
    (posted : List ℕ) → HasSide row bit halves number → Meet bit halves rows posted
    → Meet bit halves (row ∷ rows) (number ∷ posted)
meet_cons bit halves row rows number posted here rest zero lt = here
meet_cons bit halves row rows number posted here rest (suc k) lt = rest k (omega arith)

before_cons : (bit : Bool) (halves : List ℕ) (row : Form) (rows : List Form) (number : ℕ)
    (posted : List ℕ) (r : ℕ) → HasSide row bit halves number → Breaks bit halves rows posted r
    → (k : ℕ) → k < suc r → HasSide (slice_index_or (row ∷ rows) k no_row) bit halves
    (slice_index (number ∷ posted) k)
before_cons bit halves row rows number posted r here rest zero lt = here
before_cons bit halves row rows number posted r here rest (suc k) lt = rest.before k (omega arith)

-- one step of the computation
step_none : (b : Bool) (rest : Option ℕ) (r : ℕ) → (if b then rest else Some r) ≡ None
    → (b ≡ true) × (rest ≡ None)
step_none true rest r e = (refl, e)
step_none false rest r e = absurd (cc)

step_some : (b : Bool) (rest : Option ℕ) (r n : ℕ) → (if b then rest else Some r) ≡ Some n
    → ((b ≡ false) × (n ≡ r)) ⊎ ((b ≡ true) × (rest ≡ Some n))
step_some true rest r n e = inr (refl, e)
step_some false rest r n e = inl (refl, cc)

step_met : (b : Bool) (rest : Option ℕ) (r : ℕ) → b ≡ true → (if b then rest else Some r) ≡ rest
step_met b rest r e = rw e

step_unmet : (b : Bool) (rest : Option ℕ) (r : ℕ) → b ≡ false
    → (if b then rest else Some r) ≡ Some r
step_unmet b rest r e = rw e

not_true : (b : Bool) → ¬ (b ≡ true) → b ≡ false
not_true true h = absurd (h refl)
not_true false h = refl

-- where no row is found each is met
pub rows_met : (bit : Bool) (halves : List ℕ) (r : ℕ) (rows : List Form) (posted : List ℕ)
    → length posted ≡ length rows → first_false_row bit halves r rows posted ≡ None
    → Meet bit halves rows posted
unfolding first_false_row
rows_met bit halves r [] posted same e = λ k lt. absurd (omega arith)
rows_met bit halves r (row ∷ rows) [] same e = absurd (omega arith)
rows_met bit halves r (row ∷ rows) (number ∷ posted) same e =
    let step = step_none (has_side row bit halves number) _ r e in
    meet_cons bit halves row rows number posted ((side_by_test row bit halves number).0 step.0)
    (rows_met bit halves (r + 1) rows posted (omega arith) step.1)

-- where each row is met none is found
pub none_unmet : (bit : Bool) (halves : List ℕ) (r : ℕ) (rows : List Form) (posted : List ℕ)
    → length posted ≡ length rows → Meet bit halves rows posted
    → first_false_row bit halves r rows posted ≡ None
unfolding first_false_row
none_unmet bit halves r [] posted same met = refl
none_unmet bit halves r (row ∷ rows) [] same met = absurd (omega arith)
none_unmet bit halves r (row ∷ rows) (number ∷ posted) same met =
    step_met (has_side row bit halves number) _ r
    ((side_by_test row bit halves number).1 (met zero (omega arith)))
    ∙ none_unmet bit halves (r + 1) rows posted (omega arith) (λ k lt. met (suc k) (omega arith))

-- a row that is found is the first that isn't met
pub row_broken : (bit : Bool) (halves : List ℕ) (r : ℕ) (rows : List Form) (posted : List ℕ) (n : ℕ)
    → length posted ≡ length rows → first_false_row bit halves r rows posted ≡ Some n
    → (k : ℕ) × ((n ≡ r + k) × Breaks bit halves rows posted k)
unfolding first_false_row
row_broken bit halves r [] posted n same e = absurd (cc)
row_broken bit halves r (row ∷ rows) [] n same e = absurd (omega arith)
row_broken bit halves r (row ∷ rows) (number ∷ posted) n same e =
    elim (step_some (has_side row bit halves number) _ r n e) [
      | inl step ↦ (
        zero,
        (
          omega (arith, step.1),
          record {
            within = omega arith;
            before = λ k lt. absurd (omega arith);
            broken = λ met. let test = (side_by_test row bit halves number).1 met in
                absurd (cc (test, step.0));
          },
        ),
      )
      | inr step ↦
          let later = row_broken bit halves (r + 1) rows posted n (omega arith) step.1 in (
            suc later.0,
            (
              omega (arith, later.1.0),
              record {
                within = omega (arith, later.1.1.within);
                before = before_cons bit halves row rows number posted later.0
                    ((side_by_test row bit halves number).0 step.0) later.1.1;
                broken = later.1.1.broken;
              },
            ),
          )
    ]

-- the first row that isn't met is found
pub broken_found : (bit : Bool) (halves : List ℕ) (r : ℕ) (rows : List Form) (posted : List ℕ)
    (k : ℕ) → length posted ≡ length rows → Breaks bit halves rows posted k
    → first_false_row bit halves r rows posted ≡ Some (r + k)
unfolding first_false_row
broken_found bit halves r [] posted k same breaks = absurd (omega (arith, breaks.within))
broken_found bit halves r (row ∷ rows) [] k same breaks = absurd (omega arith)
broken_found bit halves r (row ∷ rows) (number ∷ posted) zero same breaks =
    rw add-zero (step_unmet (has_side row bit halves number) _ r
    (not_true _ (λ test. breaks.broken ((side_by_test row bit halves number).0 test))))
broken_found bit halves r (row ∷ rows) (number ∷ posted) (suc k) same breaks =
    let later = broken_found bit halves (r + 1) rows posted k (omega arith) (record {
      within = omega (arith, breaks.within);
      before = λ j lt. breaks.before (suc j) (omega arith);
      broken = breaks.broken;
    }) in
    let number_of : r + 1 + k ≡ r + suc k = omega arith in
    step_met (has_side row bit halves number) _ r
    ((side_by_test row bit halves number).1 (breaks.before zero (omega arith)))
    ∙ rw number_of at later
