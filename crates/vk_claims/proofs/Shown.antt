-- What is published of a case is shown by the circuit of its kind.
use Rattle.std.proofs.Common.{◌≡◌, ℕ, ◌≤◌, List, length, take, arith}
use Rattle.vk_plan.specs.Plans.{Holds}
use Rattle.vk_uniform.specs.UniformLaws.{uniform_begins, uniform_complete}
use Rattle.vk_matching.specs.MatchingLaws.{matching_begins, matching_complete}
use Rattle.vk_claim.specs.Values.{AreNumbers}
use Rattle.vk_report.specs.declared.sample.SampleCase.{SampleCase}
use Rattle.vk_report.specs.Samples.{IsCaseOf}
use Rattle.vk_words.specs.declared.claim.Kind.{Kind}
use Rattle.vk_words.specs.declared.claim.Kind.TheVariants.{Uniform, Matching}
use Rattle.vk_claims.specs.Circuits.{IsCase, claimed, plan_of}
use Rattle.vk_claims.proofs.Matchings as matching
use Rattle.vk_claims.proofs.Sales as sale
use Rattle.vk_claims.specs.Claims.{MayPublish, sizes_of, values_of}
use Rattle.vk_claims.specs.Laws.{rows_of, wires_of}

-- ---- by the kind

-- something is true of every case whose numbers may be published
abbrev OfPublished : Kind → (SampleCase → List ℕ → Type 0) → Type 0
OfPublished kind P = (case : SampleCase) → IsCaseOf (sizes_of kind) case → (numbers : List ℕ)
    → MayPublish kind case numbers → P case numbers

-- the circuit may have these numbers
pub has_case : (kind : Kind)
    → OfPublished kind (λ case numbers. IsCase kind (length case.seats) numbers)
has_case Uniform = sale.is_case
has_case Matching = matching.is_case

-- the claim holds of the case's values
pub has_claim : (kind : Kind)
    → OfPublished kind (λ case numbers. claimed kind (length case.seats) numbers
    case.bids)
unfolding claimed
has_claim Uniform = sale.is_claim
has_claim Matching = matching.is_claim

has_numbers : (kind : Kind) → OfPublished kind (λ case numbers. AreNumbers numbers)
has_numbers Uniform = sale.are_numbers
has_numbers Matching = matching.are_numbers

has_wires : (kind : Kind)
    → OfPublished kind (λ case numbers.
    length (plan_of kind (length case.seats) numbers).kinds ≡ wires_of kind numbers)
has_wires Uniform = sale.wires_are
has_wires Matching = matching.wires_are

has_rows : (kind : Kind) → OfPublished kind
    (λ case numbers. length (plan_of kind (length case.seats) numbers).rows
    ≡ rows_of kind numbers)
has_rows Uniform = sale.rows_are
has_rows Matching = matching.rows_are

few_wires : (kind : Kind) → OfPublished kind (λ case numbers. wires_of kind numbers ≤ 10000)
few_wires Uniform case is numbers published = sale.few_wires case is numbers published
few_wires Matching case is numbers published = omega arith

few_rows : (kind : Kind) → OfPublished kind (λ case numbers. rows_of kind numbers ≤ 1000)
few_rows Uniform case is numbers published = sale.few_rows case is numbers published
few_rows Matching case is numbers published = omega arith

-- ---- the values of the wires

module _ (inputs : ℕ) (numbers values : List ℕ) where
  values_hold : (kind : Kind) → IsCase kind inputs numbers
      → claimed kind inputs numbers values
      → Holds (plan_of kind inputs numbers) (values_of kind inputs numbers values)
  unfolding claimed
  values_hold Uniform case claim = uniform_complete inputs numbers values case claim
  values_hold Matching case claim = matching_complete inputs numbers case values claim

  values_begin : (kind : Kind) → IsCase kind inputs numbers
      → claimed kind inputs numbers values
      → take inputs (values_of kind inputs numbers values) ≡ values
  unfolding claimed
  values_begin Uniform case claim = uniform_begins inputs numbers values case claim
  values_begin Matching case claim = matching_begins inputs numbers case values claim

-- ---- all of it

-- the circuit of the case may have these numbers, holds for the case's values, and isn't large
pub record IsShown (kind : Kind) (case : SampleCase) (numbers : List ℕ) : Type 0 where
  pub case_is : IsCase kind (length case.seats) numbers
  pub holds : Holds (plan_of kind (length case.seats) numbers)
      (values_of kind (length case.seats) numbers case.bids)
  pub begins : take (length case.seats) (values_of kind (length case.seats) numbers case.bids)
      ≡ case.bids
  pub numbers_are : AreNumbers numbers
  pub wires : length (plan_of kind (length case.seats) numbers).kinds
      ≡ wires_of kind numbers
  pub rows : length (plan_of kind (length case.seats) numbers).rows ≡ rows_of kind numbers
  pub few_wires : wires_of kind numbers ≤ 10000
  pub few_rows : rows_of kind numbers ≤ 1000

pub is_shown : (kind : Kind) → OfPublished kind (IsShown kind)
is_shown kind case is numbers published =
    let right = has_case kind case is numbers published in
    let claim = has_claim kind case is numbers published in
    record {
      case_is = right;
      holds = values_hold (length case.seats) numbers case.bids kind right claim;
      begins = values_begin (length case.seats) numbers case.bids kind right claim;
      numbers_are = has_numbers kind case is numbers published;
      wires = has_wires kind case is numbers published;
      rows = has_rows kind case is numbers published;
      few_wires = few_wires kind case is numbers published;
      few_rows = few_rows kind case is numbers published;
    }
