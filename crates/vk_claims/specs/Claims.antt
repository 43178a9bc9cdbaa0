-- The claims of samples, each shown in eight lanes: three equal units are sold to ten bidders at
-- one price; or four men and four women are matched so that no pair blocks.
use Rattle.std.specs.Prelude.{◌≡◌, ◌≤◌, ℕ, List, [], ◌∷◌, length, codes, IfOk, IsErr, Result}
use Rattle.std.proofs.Common.{arith}
use Rattle.vk_residue.specs.Steps.{◌>>=◌}
use Rattle.vk_keeper.specs.declared.auction.SealRow.{SealRow}
use Rattle.vk_job.specs.Proofs as job
use Rattle.vk_job.specs.Proofs.{IsPrepared, ProofValue, first_dry_in, prepared_proof, source_of}
use Rattle.vk_judge.specs.Wanting.{MemoryWasWanting}
use Rattle.vk_uniform.specs.Outcomes.{IsUniformOutcome}
use Rattle.vk_uniform.specs.OutcomeLaws.{outcome_exists}
use Rattle.vk_uniform.specs.UniformPlans.{uniform_values}
use Rattle.vk_matching.specs.MatchingPlans.{matching_values}
use Rattle.vk_matching.specs.Stability.{IsPermutation, IsStable}
use Rattle.vk_claim.specs.declared.front.ClaimHead.{ClaimHead}
use Rattle.vk_report.specs.declared.sample.SampleCase.{SampleCase}
use Rattle.vk_report.specs.declared.sample.Sizes.{Sizes}
use Rattle.vk_report.specs.Samples.{case_of}
use Rattle.vk_words.specs.declared.claim.Kind.{Kind}
use Rattle.vk_words.specs.declared.claim.Kind.TheVariants.{Uniform, Matching}
use Rattle.vk_claims.specs.Circuits.{plan_of}
use Rattle.vk_sample_parts.specs.Auctions.{DrySeed, rows_onto, unless_dry}
use Rattle.vk_claims.specs.declared.making.Made.{Made}

-- ---- the kinds

-- the values of all wires by those of so many inputs, where these numbers are published
abbrev pub values_of : Kind → ℕ → List ℕ → List ℕ → List ℕ
values_of Uniform = uniform_values
values_of Matching = matching_values

-- ---- the case

-- the letters are `VKS2` or `VKS3`; a matching has a seal for each rank that one of the four has of
-- one of the others
abbrev pub sizes_of : Kind → Sizes
sizes_of Uniform = record { letters = codes "VKS2"; seals = 10; width = 16; lanes = 8 }
sizes_of Matching = record { letters = codes "VKS3"; seals = 32; width = 8; lanes = 8 }

abbrev pub claim_case : Kind → ℕ → SampleCase
claim_case kind = case_of (sizes_of kind)

-- ---- the sale

-- how many units are sold
abbrev pub units : ℕ
units = 3

pub some_unit : 1 ≤ units
some_unit = omega arith

pub enough_bids : (number : ℕ) → units ≤ length (claim_case Uniform number).bids
unfolding case_of
enough_bids number = omega arith

-- who wins, at which price: of the bids there is one outcome with so many winners, and no other
abbrev pub winners_of : ℕ → List ℕ
winners_of number = (outcome_exists (claim_case Uniform number).bids units some_unit
    (enough_bids number)).0

abbrev pub price_of : ℕ → ℕ
price_of number = (outcome_exists (claim_case Uniform number).bids units some_unit
    (enough_bids number)).1

-- the numbers that are published: the width, the price and the winners
unfoldable pub numbers_of : ℕ → List ℕ
numbers_of number = (claim_case Uniform number).width ∷ price_of number ∷ winners_of number

-- the numbers are those of an outcome of the case's bids
pub record IsSaleOf (case : SampleCase) (numbers : List ℕ) : Type 0 where
  pub winners : List ℕ
  pub price : ℕ
  pub outcome : IsUniformOutcome case.bids winners price
  pub count : length winners ≡ units
  pub numbers_are : numbers ≡ case.width ∷ price ∷ winners

-- ---- the matching

-- how many men there are, and how many women
abbrev pub couples : ℕ
couples = 4

-- the numbers are the width and a matching that no pair blocks by the case's ranks
pub record IsMatchingOf (case : SampleCase) (numbers : List ℕ) : Type 0 where
  pub matching : List ℕ
  pub permutation : IsPermutation couples matching
  pub stable : IsStable couples case.bids matching
  pub numbers_are : numbers ≡ case.width ∷ matching

-- ---- what is published

-- the numbers may be published of the case: those of the one outcome, or of a stable matching, of
-- which there may be several
abbrev pub MayPublish : Kind → SampleCase → List ℕ → Type 0
MayPublish Uniform case numbers = IsSaleOf case numbers
MayPublish Matching case numbers = IsMatchingOf case numbers

-- such numbers are given, or memory was wanting
pub record Publishes {E : Type 0} (kind : Kind) (case : SampleCase) (result : Result (List ℕ) E)
    : Type 0 where
  pub may : IfOk result (MayPublish kind case)
  pub wanting : IsErr result → MemoryWasWanting

-- ---- the proof

-- the head of the claim file, where these numbers are published
abbrev pub head_with : Kind → SampleCase → List ℕ → ClaimHead
head_with kind case numbers = record {
  auction = case.auction;
  kind = kind;
  lanes = case.lanes;
  inputs = length case.seats;
  numbers = numbers;
}

-- what the honest proof of a case is made from, where these numbers are published
abbrev pub proof_with : Kind → SampleCase → List ℕ → List SealRow → ProofValue
proof_with kind case numbers rows =
    job.proof_with case.auction rows case.lanes case.seed
    (plan_of kind (length case.seats) numbers)
    (values_of kind (length case.seats) numbers case.bids)

abbrev pub proof_unless_dry : Kind → SampleCase → List ℕ → List SealRow
    → Result ProofValue DrySeed
proof_unless_dry kind case numbers rows =
    unless_dry (proof_with kind case numbers rows)
    (first_dry_in (source_of (proof_with kind case numbers rows)))

-- what the proof is made from, or the first seed that is dry: of the sealers in the order of their
-- seals, then the prover's
unfoldable pub proof_by : Kind → SampleCase → List ℕ → Result ProofValue DrySeed
proof_by kind case numbers = rows_onto case [] (length case.seats) >>= proof_unless_dry kind case
    numbers

-- what was made of the case, as that of its proof
abbrev pub proof_in : SampleCase → Made → ProofValue
proof_in case made = prepared_proof case.auction made.rows case.lanes case.seed made.prepared

-- what serves for every lane of it is at hand
abbrev pub IsReady : SampleCase → Made → Type 0
IsReady case made = IsPrepared (proof_in case made) made.prepared
