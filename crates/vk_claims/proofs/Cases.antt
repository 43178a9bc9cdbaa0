-- The case of each kind and number is one of its sizes.
use Rattle.std.proofs.Common.{◌≡◌, ℕ, refl, arith, inl, inr}
use Rattle.vk_report.proofs.Samples.{is_case}
use Rattle.vk_report.specs.Samples.{AreSizes, IsCaseOf}
use Rattle.vk_words.specs.declared.claim.Kind.{Kind}
use Rattle.vk_words.specs.declared.claim.Kind.TheVariants.{Uniform, Matching}
use Rattle.vk_claims.specs.Claims.{claim_case, sizes_of}

pub sizes_are : (kind : Kind) → AreSizes (sizes_of kind)
sizes_are Uniform = record {
  letters = refl;
  some_seal = omega arith;
  few_seals = omega arith;
  width = inr (inl refl);
  lanes = record { least = omega arith; most = omega arith };
}
sizes_are Matching = record {
  letters = refl;
  some_seal = omega arith;
  few_seals = omega arith;
  width = inl refl;
  lanes = record { least = omega arith; most = omega arith };
}

pub case_is : (kind : Kind) (number : ℕ) → IsCaseOf (sizes_of kind) (claim_case kind number)
case_is kind number = is_case (sizes_of kind) (sizes_are kind) number

pub eight_lanes : (kind : Kind) → (sizes_of kind).lanes ≡ 8
eight_lanes Uniform = refl
eight_lanes Matching = refl
