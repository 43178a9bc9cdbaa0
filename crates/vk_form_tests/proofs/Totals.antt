-- What three numbers come to.
use Rattle.std.proofs.Common.{subst, sym, ◌≡◌, ◌≢◌, ℕ, ◌+◌, ◌^◌, ◌<◌, ◌≤◌, List, [], ◌∷◌, length, slice_index, refl, arith}
use Rattle.std.proofs.lemmas.List.Elements.{All-nil, All-cons}
use Rattle.vk_plan.specs.Plans.{PlanValue, Holds}
use Rattle.vk_form_tests.specs.Sums.{SumTo, sum_plan, sum_values}
use Rattle.vk_form_tests.specs.SumLaws.{of_three, sum_complete}

abbrev IsSmall : ℕ → Type 0
IsSmall number = number < 2 ^ 3

pub three_sum : (numbers : List ℕ) → length numbers ≡ 3 → slice_index numbers 0 < 8
    → slice_index numbers 1 < 8 → slice_index numbers 2 < 8
    → SumTo (slice_index numbers 0 + slice_index numbers 1 + slice_index numbers 2) numbers
three_sum (a ∷ b ∷ c ∷ []) three small-a small-b small-c = record {
  three = refl;
  small = All-cons IsSmall a (b ∷ c ∷ []) small-a
      (All-cons IsSmall b (c ∷ []) small-b (All-cons IsSmall c [] small-c (All-nil IsSmall)));
  come_to = omega arith;
}
three_sum [] three small-a small-b small-c = omega (arith, three)
three_sum (a ∷ []) three small-a small-b small-c = omega (arith, three)
three_sum (a ∷ b ∷ []) three small-a small-b small-c = omega (arith, three)
three_sum (a ∷ b ∷ c ∷ d ∷ more) three small-a small-b small-c = omega (arith, three)

pub few_refused : (total : ℕ) (numbers : List ℕ) → length numbers ≢ 3 → ¬ SumTo total numbers
few_refused total numbers few claim = few claim.three

pub large_refused : (total : ℕ) (numbers : List ℕ) (index : ℕ) → index < 3
    → 8 ≤ slice_index numbers index → ¬ SumTo total numbers
large_refused total numbers index within large claim =
    omega (arith, large, claim.small index 0 (omega (arith, claim.three)))

small_total : (total : ℕ) (numbers : List ℕ) → SumTo total numbers → total ≤ 21
small_total total = of_three total (λ numbers. total ≤ 21)
    (λ a b c small-a small-b small-c come_to. omega arith)

pub filled_hold : (total : ℕ) (numbers : List ℕ) (plan : PlanValue) (values : List ℕ)
    → SumTo total numbers → plan ≡ sum_plan total
    → values ≡ sum_values numbers → Holds plan values
filled_hold total numbers plan values claim same-plan same-values =
    let whole = sum_complete total numbers (small_total total numbers claim) claim in
    subst (λ p. Holds p values) (sym same-plan)
    (subst (Holds (sum_plan total)) (sym same-values) whole)
