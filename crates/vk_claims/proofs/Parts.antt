-- Each kind is admitted exactly where it may have its numbers, and so it is by the code.
use Rattle.std.proofs.Common.{◌≡◌, ℕ, List, Option, Some, None, IfSome, IsSome, ap, refl, sym, ◌∙◌}
use Rattle.std.specs.Prelude.{◌↔◌, option_map}
use Rattle.vk_words.specs.declared.claim.Kind.{Kind}
use Rattle.vk_claims.specs.Circuits.{IsCase, admitted_plan, claimed, no_part, part, plan_of}
use Rattle.vk_claims.specs.Statuses.{Admits}

pub admits : (kind : Kind) (inputs : ℕ) (numbers : List ℕ)
    → Admits kind inputs numbers (IsCase kind inputs numbers) (plan_of kind inputs numbers)
    (claimed kind inputs numbers)
admits kind inputs numbers = record {
  admitted = part kind inputs numbers;
  other = no_part kind inputs numbers;
  claims = λ values. (λ is. is, λ is. is);
}

-- a circuit is made of the numbers in just the cases that are admitted
module _ {C : Type 0} (inputs_of : C → ℕ) (numbers_of : C → List ℕ) (kind : Kind) (inputs : ℕ) (numbers : List ℕ) where
  pub part_is : (found : Option C) → (IsSome found ↔ IsCase kind inputs numbers)
      → IfSome found (λ made. (inputs_of made ≡ inputs) × (numbers_of made ≡ numbers))
      → option_map (λ made. plan_of kind (inputs_of made) (numbers_of made)) found
      ≡ admitted_plan kind inputs numbers
  part_is (Some made) admitted of =
      ap Some (ap (λ n. plan_of kind n (numbers_of made)) of.0 ∙ ap (plan_of kind inputs) of.1)
      ∙ sym (part kind inputs numbers (admitted.0 refl))
  part_is None admitted of = sym
      (no_part kind inputs numbers (λ case. let some = admitted.1 case in cc))
