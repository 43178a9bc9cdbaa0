-- The laws of the claims of samples.
use Rattle.std.specs.Prelude.{◌≡◌, ℕ, List, length, Ok}
use Rattle.vk_io.specs.Files.{Files}
use Rattle.vk_io.specs.Writing.{written}
use Rattle.vk_reply.specs.Texts.{challenge_text}
use Rattle.vk_bids.specs.declared.extraction.Extraction.TheVariants.{Bids}
use Rattle.vk_claim.specs.Acceptance.{ClaimAccepts}
use Rattle.vk_claim.specs.Extraction.{OpenedClaim}
use Rattle.vk_claim.specs.Texts.{claim_head_text}
use Rattle.vk_uniform.specs.UniformPlans as sale
use Rattle.vk_job.specs.Proofs.{ProofValue, file_of, reply_in}
use Rattle.vk_report.specs.declared.sample.SampleCase.{SampleCase}
use Rattle.vk_words.specs.declared.claim.Kind.{Kind}
use Rattle.vk_words.specs.declared.claim.Kind.TheVariants.{Uniform, Matching}
use Rattle.vk_claims.specs.Circuits.{admitted_plan}
use Rattle.vk_sample_parts.specs.Texts.{same_count}
use Rattle.vk_claims.specs.Claims.{MayPublish, claim_case, head_with, proof_by, sizes_of}
use Rattle.vk_claims.specs.Texts.{claim_read, files_of}

-- a law of every kind and number none of whose seeds is dry, whichever numbers are published that
-- may be
abbrev pub OfEachClaim : (Kind → SampleCase → List ℕ → ProofValue → Type 0) → Type 0
OfEachClaim Law =
    (kind : Kind) (number : ℕ) (numbers : List ℕ) (proof : ProofValue)
    → MayPublish kind (claim_case kind number) numbers
    → proof_by kind (claim_case kind number) numbers ≡ Ok proof
    → Law kind (claim_case kind number) numbers proof

-- how many wires and rows the circuit has
abbrev pub wires_of : Kind → List ℕ → ℕ
wires_of Uniform numbers = sale.wire_count 10 numbers
wires_of Matching numbers = 548

abbrev pub rows_of : Kind → List ℕ → ℕ
rows_of Uniform numbers = sale.row_count 10 numbers
rows_of Matching numbers = 88

-- how large it is
pub record HasSize (kind : Kind) (case : SampleCase) (numbers : List ℕ)
    (proof : ProofValue) : Type 0 where
  pub inputs : proof.plan.inputs ≡ (sizes_of kind).seals
  pub lanes : proof.lanes ≡ 8
  pub wires : length proof.plan.kinds ≡ wires_of kind numbers
  pub rows : length proof.plan.rows ≡ rows_of kind numbers

-- the claim file and a reply of the honest prover are accepted, for either challenge
pub record ClaimSampleIsAccepted (kind : Kind) (case : SampleCase) (numbers : List ℕ)
    (proof : ProofValue) : Type 0 where
  pub first : ClaimAccepts admitted_plan
      (file_of (claim_head_text (head_with kind case numbers)) proof) (challenge_text case.first)
      (reply_in proof case.first.bits)
  pub second : ClaimAccepts admitted_plan
      (file_of (claim_head_text (head_with kind case numbers)) proof) (challenge_text case.second)
      (reply_in proof case.second.bits)

-- read from files that hold what was written, both replies open the values that were sealed: in
-- every lane, and of every seal the same
pub record ClaimSampleOpensAll (kind : Kind) (case : SampleCase) (numbers : List ℕ)
    (proof : ProofValue) : Type 0 where
  pub found : OpenedClaim
  pub read : (files : Files) → claim_read (written (files_of kind case numbers proof) files)
      ≡ Ok (Bids found)
  pub all_lanes : length found.opened.lanes ≡ proof.lanes
  pub all_seals : found.head.inputs ≡ length proof.rows
  pub all_same : same_count found.head.inputs found.opened.lanes ≡ length proof.rows
