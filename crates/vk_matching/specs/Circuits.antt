-- The plan as a circuit: its numbers, and its laws.
use Rattle.std.specs.Prelude.{ℕ, ◌≡◌, List, ◌∷◌, take}
use Rattle.std.proofs.Common.{sym, subst, ap, ◌∙◌}
use Rattle.vk_plan.specs.Plans.{PlanValue, IsPlan, Holds}
use Rattle.vk_matching.specs.declared.plan.MatchingPlan.{MatchingPlan}
use Rattle.vk_matching.specs.MatchingPlans.{IsMatchingClaim, matching_plan, matching_values}
use Rattle.vk_matching.specs.MatchingLaws.{matching_inputs, matching_is_plan, matching_begins, matching_sound, matching_complete}

-- how many ranks there are
abbrev pub inputs_of : MatchingPlan → ℕ
inputs_of c = c.inputs

-- the published numbers: the width, and each man's woman
abbrev pub numbers_of : MatchingPlan → List ℕ
numbers_of c = c.width ∷ c.wives

-- what its circuit is
abbrev pub planned : MatchingPlan → PlanValue
planned c = matching_plan (inputs_of c) (numbers_of c)

-- what it shows of the ranks
abbrev pub claim_of : MatchingPlan → List ℕ → Type 0
claim_of c = IsMatchingClaim (inputs_of c) (numbers_of c)

module _ (c : MatchingPlan) where
  pub circuit_is_plan : IsPlan (planned c)
  circuit_is_plan = matching_is_plan (inputs_of c) (numbers_of c) c.in_limits

  inputs_are : (planned c).inputs ≡ inputs_of c
  inputs_are = matching_inputs (inputs_of c) (numbers_of c)

  pub circuit_begins : (ranks : List ℕ) → claim_of c ranks
      → take (planned c).inputs (matching_values (inputs_of c) (numbers_of c) ranks) ≡ ranks
  circuit_begins ranks claim =
      ap (λ n. take n (matching_values (inputs_of c) (numbers_of c) ranks)) inputs_are
      ∙ matching_begins (inputs_of c) (numbers_of c) c.in_limits ranks claim

  pub circuit_sound : (values : List ℕ) → Holds (planned c) values
      → claim_of c (take (planned c).inputs values)
  circuit_sound values holds =
      subst (λ n. claim_of c (take n values)) (sym inputs_are)
      (matching_sound (inputs_of c) (numbers_of c) c.in_limits values holds)

  pub circuit_complete : (ranks : List ℕ) → claim_of c ranks
      → Holds (planned c) (matching_values (inputs_of c) (numbers_of c) ranks)
  circuit_complete = matching_complete (inputs_of c) (numbers_of c) c.in_limits
