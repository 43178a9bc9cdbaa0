-- The plan as a circuit: its numbers, and its laws.
use Rattle.std.specs.Prelude.{ℕ, ◌≡◌, ◌≢◌, Bool, true, false, List, [], ◌∷◌, length, take}
use Rattle.std.proofs.Common.{sym, subst, ap, ◌∙◌}
use Rattle.std.proofs.lemmas.Bool.{both_ways}
use Rattle.std.proofs.lemmas.List.{nil_from_length}
use Rattle.vk_plan.specs.Plans.{IsPlan, Holds}
use Rattle.vk_uniform.specs.declared.plan.UniformPlan.{UniformPlan}
use Rattle.vk_uniform.specs.UniformPlans.{IsUniformClaim, losers_of, uniform_plan, uniform_values}
use Rattle.vk_uniform.specs.UniformLaws.{uniform_inputs, uniform_is_plan, uniform_begins, uniform_sound, uniform_complete}

-- how many bids there are
abbrev pub inputs_of : UniformPlan → ℕ
inputs_of c = c.inputs

-- the published numbers: the width, the price, and the winners' positions
abbrev pub numbers_of : UniformPlan → List ℕ
numbers_of c = c.width ∷ c.price ∷ c.winners

pub circuit_is_plan : (c : UniformPlan) → IsPlan (uniform_plan (inputs_of c) (numbers_of c))
circuit_is_plan c = uniform_is_plan (inputs_of c) (numbers_of c) c.in_limits

pub circuit_begins : (c : UniformPlan) (bids : List ℕ)
    → IsUniformClaim (inputs_of c) (numbers_of c) bids
    → take (uniform_plan (inputs_of c) (numbers_of c)).inputs
    (uniform_values (inputs_of c) (numbers_of c) bids)
    ≡ bids
circuit_begins c bids claim =
    ap (λ n. take n (uniform_values (inputs_of c) (numbers_of c) bids))
    (uniform_inputs (inputs_of c) (numbers_of c))
    ∙ uniform_begins (inputs_of c) (numbers_of c) bids c.in_limits claim

pub circuit_sound : (c : UniformPlan) (values : List ℕ)
    → Holds (uniform_plan (inputs_of c) (numbers_of c)) values
    → IsUniformClaim (inputs_of c) (numbers_of c)
    (take (uniform_plan (inputs_of c) (numbers_of c)).inputs values)
circuit_sound c values holds =
    subst (λ n. IsUniformClaim (inputs_of c) (numbers_of c) (take n values))
    (sym (uniform_inputs (inputs_of c) (numbers_of c)))
    (uniform_sound (inputs_of c) (numbers_of c) c.in_limits values holds)

pub circuit_complete : (c : UniformPlan) (bids : List ℕ)
    → IsUniformClaim (inputs_of c) (numbers_of c) bids
    → Holds (uniform_plan (inputs_of c) (numbers_of c))
    (uniform_values (inputs_of c) (numbers_of c) bids)
circuit_complete c bids claim = uniform_complete (inputs_of c) (numbers_of c) bids c.in_limits claim

-- somebody loses, or nobody does
module _ (c : UniformPlan) where
  pub none_loses : c.losers ≡ [] → length (losers_of (inputs_of c) (numbers_of c)) ≡ 0
  none_loses none = ap length (sym c.outside ∙ none)

  pub some_loses : (c.losers ≡ [] → ⊥) → length (losers_of (inputs_of c) (numbers_of c)) ≢ 0
  some_loses some none = some (c.outside
      ∙ nil_from_length (losers_of (inputs_of c) (numbers_of c)) none)

  -- by a test of whether nobody does
  pub tested_loses : (nobody : Bool) → (c.losers ≡ [] → nobody ≡ true) → nobody ≡ false
      → length (losers_of (inputs_of c) (numbers_of c)) ≢ 0
  tested_loses nobody tests somebody = some_loses (λ none. both_ways nobody somebody (tests none))
