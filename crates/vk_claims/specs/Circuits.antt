-- Which public parts are admitted, by which plan each is shown, and what it claims.
use Rattle.std.specs.Prelude.{ℕ, ◌≡◌, Bool, true, false, if◌then◌else◌, List, IfSome, take, Decides, Option, Some, None}
use Rattle.std.proofs.Common.{refl, ap}
use Rattle.vk_plan.specs.Plans.{Holds, IsPlan, PlanValue}
use Rattle.vk_uniform.specs.UniformLaws.{uniform_inputs, uniform_is_plan, uniform_sound}
use Rattle.vk_uniform.specs.UniformPlans.{IsUniformCase, IsUniformClaim, uniform_plan}
use Rattle.vk_matching.specs.MatchingLaws.{matching_inputs, matching_is_plan, matching_sound}
use Rattle.vk_matching.specs.MatchingPlans.{IsMatchingCase, IsMatchingClaim, matching_plan}
use Rattle.vk_words.specs.declared.claim.Kind.{Kind}
use Rattle.vk_words.specs.declared.claim.Kind.TheVariants.{Uniform, Matching}
use Rattle.vk_claim.specs.Values.{Claims, Plans}
use Rattle.vk_claims.specs.Cases.{is_matching_case, is_uniform_case, matching_decides, uniform_decides}

-- ---- by the kind

-- a part may have so many inputs and these numbers; and whether it may
abbrev pub IsCase : Kind → ℕ → List ℕ → Type 0
IsCase Uniform = IsUniformCase
IsCase Matching = IsMatchingCase

abbrev pub is_case : Kind → ℕ → List ℕ → Bool
is_case Uniform = is_uniform_case
is_case Matching = is_matching_case

case_decides : (kind : Kind) (inputs : ℕ) (numbers : List ℕ)
    → Decides (is_case kind inputs numbers) (IsCase kind inputs numbers)
case_decides Uniform = uniform_decides
case_decides Matching = matching_decides

-- the plan of its circuit
abbrev pub plan_of : Kind → ℕ → List ℕ → PlanValue
plan_of Uniform = uniform_plan
plan_of Matching = matching_plan

-- what it claims of the values of its inputs
unfoldable pub claimed : Claims
claimed Uniform inputs numbers values = IsUniformClaim inputs numbers values
claimed Matching inputs numbers values = IsMatchingClaim inputs numbers values

-- ---- public parts

-- the plan of a public part, where it is admitted
unfoldable pub admitted_plan : Plans
admitted_plan kind inputs numbers = if is_case kind inputs numbers
    then Some (plan_of kind inputs numbers) else None

module _ (kind : Kind) (inputs : ℕ) (numbers : List ℕ) where
  abbrev plan_if : Bool → Option PlanValue
  plan_if test = if test then Some (plan_of kind inputs numbers) else None

  -- where it may have these numbers, and where it may not
  pub part : IsCase kind inputs numbers
      → admitted_plan kind inputs numbers ≡ Some (plan_of kind inputs numbers)
  unfolding admitted_plan
  part is = ap plan_if ((case_decides kind inputs numbers).1 is)

  pub no_part : ¬ IsCase kind inputs numbers → admitted_plan kind inputs numbers ≡ None
  unfolding admitted_plan
  no_part none = ap plan_if (not_case (is_case kind inputs numbers) refl)
    where
      not_case : (test : Bool) → is_case kind inputs numbers ≡ test → test ≡ false
      not_case true is = absurd (none ((case_decides kind inputs numbers).0 is))
      not_case false is = refl

  by_case : (P : PlanValue → Type 0)
      → (IsCase kind inputs numbers → P (plan_of kind inputs numbers))
      → IfSome (admitted_plan kind inputs numbers) P
  unfolding admitted_plan
  by_case P holds = by_test (is_case kind inputs numbers) refl
    where
      by_test : (test : Bool) → is_case kind inputs numbers ≡ test → IfSome (plan_if test) P
      by_test true is = holds ((case_decides kind inputs numbers).0 is)
      by_test false is = tt

-- ---- the laws of circuits

pub plan_is_right : (kind : Kind) (inputs : ℕ) (numbers : List ℕ) → IsCase kind inputs numbers
    → IsPlan (plan_of kind inputs numbers)
plan_is_right Uniform = uniform_is_plan
plan_is_right Matching = matching_is_plan

pub plan_inputs : (kind : Kind) (inputs : ℕ) (numbers : List ℕ)
    → (plan_of kind inputs numbers).inputs ≡ inputs
plan_inputs Uniform = uniform_inputs
plan_inputs Matching = matching_inputs

claim_is_sound : (kind : Kind) (inputs : ℕ) (numbers : List ℕ) → IsCase kind inputs numbers
    → (values : List ℕ)
    → Holds (plan_of kind inputs numbers) values → claimed kind inputs numbers (take inputs values)
unfolding claimed
claim_is_sound Uniform = uniform_sound
claim_is_sound Matching = matching_sound

-- a plan keeps what every plan keeps, and has as many inputs as its part says
pub plans_are_right : (kind : Kind) (inputs : ℕ) (numbers : List ℕ)
    → IfSome (admitted_plan kind inputs numbers) (λ plan. IsPlan plan × (plan.inputs ≡ inputs))
plans_are_right kind inputs numbers =
    by_case kind inputs numbers (λ plan. IsPlan plan × (plan.inputs ≡ inputs))
    (λ is. (plan_is_right kind inputs numbers is, plan_inputs kind inputs numbers))

-- where values hold for it, its claim holds of the inputs
pub claims_are_sound : (kind : Kind) (inputs : ℕ) (numbers values : List ℕ)
    → IfSome (admitted_plan kind inputs numbers)
    (λ plan. Holds plan values → claimed kind inputs numbers (take inputs values))
claims_are_sound kind inputs numbers values =
    by_case kind inputs numbers
    (λ plan. Holds plan values → claimed kind inputs numbers (take inputs values))
    (λ is holds. claim_is_sound kind inputs numbers is values holds)
