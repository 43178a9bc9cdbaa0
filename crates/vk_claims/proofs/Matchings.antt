-- The numbers of a sample's matching, and that no pair blocks it by the sample's ranks.
use Rattle.std.proofs.Common.{◌≡◌, ℕ, ◌+◌, ◌-◌, ◌*◌, ◌^◌, ◌<◌, List, ◌∷◌, length, sym, ap, subst, ◌∙◌, arith}
use Rattle.std.specs.Prelude.{All}
use Rattle.std.proofs.lemmas.List.Elements.{All-weaker, recursion_from_All}
use Rattle.vk_matching.specs.Circuits as ranked
use Rattle.vk_matching.specs.MatchingLaws.{matching_rows, matching_wires}
use Rattle.vk_matching.specs.MatchingPlans.{IsMatchingCase, IsMatchingClaim, matching_plan, row_count, wire_count}
use Rattle.vk_matching.specs.Stability.{IsPermutation, IsPerson, IsStable}
use Rattle.vk_claim.specs.Values.{AreNumbers}
use Rattle.vk_report.specs.declared.sample.SampleCase.{SampleCase}
use Rattle.vk_report.specs.Samples.{IsCaseOf}
use Rattle.vk_words.specs.declared.claim.Kind.TheVariants.{Matching}
use Rattle.vk_claims.proofs.ByKind.{IsOfKind}
use Rattle.vk_claims.specs.Claims.{IsMatchingOf, couples, sizes_of}

module _ (case : SampleCase) (is : IsCaseOf (sizes_of Matching) case) (matching : List ℕ) (permutes : IsPermutation couples matching) (stable : IsStable couples case.bids matching) where
  matching_case : IsMatchingCase (length case.seats) (case.width ∷ matching)
  matching_case = record {
    limits = record {
      some = omega (arith, permutes.one_each);
      most = omega (arith, permutes.one_each);
      least_width = omega (arith, is.width_is);
      most_width = omega (arith, is.width_is);
      all_ranks = is.seals_are ∙ ap (λ n. 2 * n * n) (sym permutes.one_each);
    };
    permutation = subst (λ n. IsPermutation n matching) (sym permutes.one_each) permutes;
  }

  matching_claim : IsMatchingClaim (length case.seats) (case.width ∷ matching) case.bids
  matching_claim = record {
    one_each = is.right.bid_count;
    within_width = is.right.bids;
    stable = subst (λ n. IsStable n case.bids matching) (sym permutes.one_each) stable;
  }

  matching_numbers : AreNumbers (case.width ∷ matching)
  matching_numbers =
      let within : All (λ number. number < 2 ^ 64) matching =
      All-weaker (IsPerson couples) (λ number. number < 2 ^ 64)
      (λ person at. omega (arith, at.within)) matching permutes.are_persons in
      record {
        some = omega arith;
        few = omega (arith, permutes.one_each);
        small = (
          omega (arith, is.width_is),
          recursion_from_All (λ number. number < 2 ^ 64) matching within,
        );
      }

-- ---- of numbers that are those of a matching

module _ (case : SampleCase) (is : IsCaseOf (sizes_of Matching) case) (numbers : List ℕ) (of : IsMatchingOf case numbers) where
  pub is_case : IsMatchingCase (length case.seats) numbers
  is_case = subst (IsMatchingCase (length case.seats)) (sym of.numbers_are)
      (matching_case case is of.matching of.permutation of.stable)

  pub is_claim : IsMatchingClaim (length case.seats) numbers case.bids
  is_claim =
      subst (λ ns. IsMatchingClaim (length case.seats) ns case.bids) (sym of.numbers_are)
      (matching_claim case is of.matching of.permutation of.stable)

  pub are_numbers : AreNumbers numbers
  are_numbers = subst (λ ns. AreNumbers ns) (sym of.numbers_are)
      (matching_numbers case is of.matching of.permutation of.stable)

  -- ---- how large the circuit is, by the width and the number of couples alone

  abbrev wires_with : ℕ → ℕ → ℕ
  wires_with width size = 4 * size * size + 2 * size * size * width
      + size * (size - 1) * (2 * width + 3)

  abbrev rows_with : ℕ → ℕ
  rows_with size = 4 * size * size + 2 * size * (size - 1)

  pub wires_are : length (matching_plan (length case.seats) numbers).kinds ≡ 548
  wires_are =
      matching_wires (length case.seats) numbers is_case
      ∙ ap (λ ns. wire_count ns) of.numbers_are
      ∙ ap (λ width. wires_with width (length of.matching)) is.width_is
      ∙ ap (wires_with 8) of.permutation.one_each

  pub rows_are : length (matching_plan (length case.seats) numbers).rows ≡ 88
  rows_are =
      matching_rows (length case.seats) numbers is_case
      ∙ ap (λ ns. row_count ns) of.numbers_are
      ∙ ap rows_with of.permutation.one_each

pub circuit : IsOfKind ranked.inputs_of ranked.numbers_of IsMatchingCase IsMatchingClaim Matching
circuit = record { case_is = is_case; claim_is = is_claim }
