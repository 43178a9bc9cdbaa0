-- The laws of the circuit: what holds for it is what is claimed.
use Rattle.std.specs.Prelude.{◌≡◌, ℕ, ◌+◌, ◌^◌, ◌<◌, ◌≤◌, List, [], ◌∷◌, All, length, take, slice_index}
use Rattle.std.proofs.Common.{refl, subst, arith, lit≤, append-nil}
use Rattle.std.proofs.lemmas.List.{take_all, take_at}
use Rattle.std.proofs.lemmas.List.Elements.{All-nil, All-cons}
use Rattle.vk_residue.specs.Residue.{IsResidue}
use Rattle.vk_plan.specs.declared.form.Term.{Term}
use Rattle.vk_plan.specs.Forms.{form_value, linear_part, NamesBelow}
use Rattle.vk_plan.specs.Plans.{IsPlan, Holds, plan_of_inputs}
use Rattle.vk_plan.specs.PlanLaws.{IsPlan-inputs, Holds-inputs, Holds-before}
use Rattle.vk_range.specs.Laws.{sum_is_sound, sum_is_complete}
use Rattle.vk_range.specs.Sets.{plus, IsOfWidth}
use Rattle.vk_range.specs.SetLaws.{All-listed}
use Rattle.vk_range.specs.Rooms.{sum_is_room, ranges_room}
use Rattle.vk_range.specs.Ranges.{AreRanges, AreOfWidth, ranges_wires, ranges_rows, ranges_values}
use Rattle.vk_range.specs.RangesLaws.{ranges_sound, ranges_complete}
use Rattle.vk_form_tests.specs.Sums.{SumTo, total_form, input_form, input_ranges, total_plan, sum_plan, sum_values}

-- ---- the relations fit

abbrev IsInput : Term → Type 0
IsInput term = term.wire < 3

names_total : (total : ℕ) → NamesBelow 3 (total_form total).terms
names_total total =
    All-cons IsInput (plus 0) (plus 1 ∷ plus 2 ∷ []) (omega arith)
    (All-cons IsInput (plus 1) (plus 2 ∷ []) (omega arith)
    (All-cons IsInput (plus 2) [] (omega arith) (All-nil IsInput)))

pub ranges_fit : AreRanges input_ranges 3
ranges_fit = record {
  names = All-listed (λ form. NamesBelow 3 form.terms) input_form 3
      (λ i h. All-cons IsInput (plus i) [] h (All-nil IsInput));
  wide = record { least = omega arith; most = omega arith };
}

pub total_is_plan : (total : ℕ) → IsPlan (total_plan total)
total_is_plan total = sum_is_room (plan_of_inputs 3) (total_form total)
    (IsPlan-inputs 3 (omega arith)) (names_total total) (omega arith)

pub sum_is_plan : (total : ℕ) → IsPlan (sum_plan total)
unfolding sum_plan
sum_is_plan total = ranges_room (total_plan total) input_ranges (total_is_plan total) ranges_fit
    (lit≤ tt) (lit≤ tt)

-- ---- three numbers

by_rows : (total : ℕ) (numbers : List ℕ) → total ≤ 21 → length numbers ≡ 3 → All IsResidue numbers
    → AreOfWidth input_ranges numbers → form_value (total_form total) numbers ≡ 0
    → SumTo total numbers
unfolding form_value linear_part
by_rows total (a ∷ b ∷ c ∷ []) few three residues widths zero' =
    let small-a : a < 8 = omega
    (arith, widths 0 (input_form 0) (omega arith), residues 0 0 (omega arith)) in
    let small-b : b < 8 = omega
    (arith, widths 1 (input_form 0) (omega arith), residues 1 0 (omega arith)) in
    let small-c : c < 8 = omega
    (arith, widths 2 (input_form 0) (omega arith), residues 2 0 (omega arith)) in
    record {
      three = refl;
      small = All-cons (λ n. n < 8) a (b ∷ c ∷ []) small-a
          (All-cons (λ n. n < 8) b (c ∷ []) small-b
          (All-cons (λ n. n < 8) c [] small-c (All-nil (λ n. n < 8))));
      come_to = omega (arith, zero');
    }
by_rows total [] few three residues widths zero' = cc
by_rows total (a ∷ []) few three residues widths zero' = cc
by_rows total (a ∷ b ∷ []) few three residues widths zero' = cc
by_rows total (a ∷ b ∷ c ∷ d ∷ more) few three residues widths zero' = omega (arith, three)

-- ---- the laws

pub sum_begins : (total : ℕ) (numbers : List ℕ) → SumTo total numbers
    → take (sum_plan total).inputs (sum_values numbers) ≡ numbers
unfolding sum_plan
sum_begins total numbers claim = take_at numbers (ranges_values input_ranges numbers) 3 claim.three

pub sum_sound : (total : ℕ) (values : List ℕ) → total ≤ 21 → Holds (sum_plan total) values
    → SumTo total (take (sum_plan total).inputs values)
unfolding sum_plan
sum_sound total values few holds =
    let before : Holds (total_plan total) (take 3 values) =
    Holds-before (total_plan total) (ranges_wires input_ranges) (ranges_rows input_ranges 3) values
    (total_is_plan total).names holds in
    let widths : AreOfWidth input_ranges (take 3 values) =
    ranges_sound input_ranges (total_plan total) values (total_is_plan total).names ranges_fit holds
    in
    let zero' = sum_is_sound (plan_of_inputs 3) (total_form total) (take 3 values)
    (names_total total) before in
    let same = take_all 3 (take 3 values) (omega (arith, before.one_each)) in
    by_rows total (take 3 values) few before.one_each before.residues widths (rw same at zero')

residues_of : (numbers : List ℕ) → All (λ number. number < 2 ^ 3) numbers → All IsResidue numbers
residues_of numbers small k d h = omega (arith, small k d h)

-- what holds of each three small numbers that come to the total
pub of_three : (total : ℕ) (P : List ℕ → Type 0)
    → ((a b c : ℕ) → a < 8 → b < 8 → c < 8 → a + (b + c) ≡ total → P (a ∷ b ∷ c ∷ []))
    → (numbers : List ℕ) → SumTo total numbers → P numbers
of_three total P each (a ∷ b ∷ c ∷ []) claim =
    each a b c (claim.small 0 0 (omega arith)) (claim.small 1 0 (omega arith))
    (claim.small 2 0 (omega arith)) (omega (arith, claim.come_to))
of_three total P each [] claim = absurd (omega (arith, claim.three))
of_three total P each (a ∷ []) claim = absurd (omega (arith, claim.three))
of_three total P each (a ∷ b ∷ []) claim = absurd (omega (arith, claim.three))
of_three total P each (a ∷ b ∷ c ∷ d ∷ more) claim = absurd (omega (arith, claim.three))

total_of : (total : ℕ) (numbers : List ℕ) → total ≤ 21 → SumTo total numbers
    → form_value (total_form total) numbers ≡ 0
unfolding form_value linear_part
total_of total numbers few claim =
    of_three total (λ numbers. form_value (total_form total) numbers ≡ 0)
    (λ a b c small-a small-b small-c come_to. omega arith) numbers claim

width_of : (numbers : List ℕ) (i : ℕ) → slice_index numbers i < 8
    → IsOfWidth 3 (form_value (input_form i) numbers)
unfolding form_value linear_part
width_of numbers i small = omega (arith, small)

pub widths_of : (numbers : List ℕ) → length numbers ≡ 3 → All (λ number. number < 2 ^ 3) numbers
    → AreOfWidth input_ranges numbers
widths_of numbers three small =
    All-listed (λ form. IsOfWidth 3 (form_value form numbers)) input_form 3
    (λ i h. width_of numbers i (small i 0 (omega (arith, three))))

pub sum_complete : (total : ℕ) (numbers : List ℕ) → total ≤ 21 → SumTo total numbers
    → Holds (sum_plan total) (sum_values numbers)
unfolding sum_plan
sum_complete total numbers few claim =
    let inputs = Holds-inputs 3 numbers claim.three (residues_of numbers claim.small) in
    let before = sum_is_complete (plan_of_inputs 3) (total_form total) numbers
    (IsPlan-inputs 3 (omega arith)).names (names_total total)
    inputs (total_of total numbers few claim) in
    ranges_complete input_ranges (total_plan total) numbers (total_is_plan total).names ranges_fit
    (subst (Holds (total_plan total)) (append-nil numbers) before)
    (widths_of numbers claim.three claim.small)
