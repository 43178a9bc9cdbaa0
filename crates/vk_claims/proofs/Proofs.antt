-- The proof of a sample's claim is an honest one whose rows are sealed.
use Rattle.std.proofs.Common.{◌≡◌, ℕ, ◌-◌, List, [], length, map, take, None, Result, Ok, Err, sym, ap, subst, ◌∙◌}
use Rattle.vk_residue.specs.Steps.{◌>>=◌}
use Rattle.vk_plan.specs.Plans.{PlanValue}
use Rattle.vk_lines.specs.Gives.{Refuses}
use Rattle.vk_board.specs.Values.{AreSealsOf}
use Rattle.vk_judge.proofs.Steps.{bind_ok}
use Rattle.vk_keeper.specs.declared.auction.SealRow.{SealRow}
use Rattle.vk_job.specs.declared.errors.JobErr.{JobErr}
use Rattle.vk_job.specs.declared.errors.JobErr.TheVariants as job
use Rattle.vk_job.specs.Answers.{TapesAnswer}
use Rattle.vk_job.specs.Proofs as job_proofs
use Rattle.vk_job.specs.Proofs.{IsProof, ProofValue, TapeSource, first_dry_in, seal_lines_of, source_of, source_with}
use Rattle.vk_job.specs.Published.{head_of}
use Rattle.vk_job.proofs.Held.{have_tapes}
use Rattle.vk_job.proofs.Parts as job_parts
use Rattle.vk_honest.specs.Answers.{IsSealedProof}
use Rattle.vk_report.specs.declared.sample.SampleCase.{SampleCase}
use Rattle.vk_report.specs.Samples.{IsCase}
use Rattle.vk_words.specs.declared.claim.Kind.{Kind}
use Rattle.vk_sample_parts.specs.Auctions.{DrySeed, auction_with, dry_of, of_job, rows_onto, unless_dry}
use Rattle.vk_sample_parts.proofs.Auctions.{AllRows, all_rows, is_auction, none_dry}
use Rattle.vk_claims.specs.Circuits.{plan_inputs, plan_is_right, plan_of}
use Rattle.vk_claims.proofs.Shown.{IsShown}
use Rattle.vk_claims.specs.Claims.{proof_by, proof_unless_dry, proof_with, values_of}

module _ (kind : Kind) (case : SampleCase) (is : IsCase case) (numbers : List ℕ) (shown : IsShown kind case numbers) (rows : List SealRow) (all : AllRows case rows)
    (none : first_dry_in (source_of (proof_with kind case numbers rows)) ≡ None) where
  pub is_proof : IsProof (proof_with kind case numbers rows)
  is_proof = record {
    plan = plan_is_right kind (length case.seats) numbers shown.case_is;
    one_input_each = all.count ∙ sym (plan_inputs kind (length case.seats) numbers);
    values = shown.holds;
    count = is.size.lanes;
    secrets = have_tapes case.auction case.width case.lanes rows all.right;
    none_dry = none;
  }

  pub is_sealed : IsSealedProof case.width (proof_with kind case numbers rows)
  is_sealed = record {
    right = is_proof;
    rows = all.right;
    inputs =
        ap (λ n. take n (values_of kind (length case.seats) numbers case.bids)) all.count
        ∙ shown.begins ∙ sym all.bids_are;
  }

-- the seals may stand in a claim file
pub seals_may_stand : (case : SampleCase) → IsCase case → (rows : List SealRow) → AllRows case rows
    → AreSealsOf (length rows) case.lanes (map seal_lines_of rows)
unfolding head_of
seals_may_stand case is rows all =
    job_parts.seals_are (auction_with case rows) (is_auction case is rows all)

-- ---- what was made

pub record IsMadeOf (kind : Kind) (case : SampleCase) (numbers : List ℕ)
    (proof : ProofValue) : Type 0 where
  pub rows : List SealRow
  pub all : AllRows case rows
  pub none : first_dry_in (source_of (proof_with kind case numbers rows)) ≡ None
  pub same : proof_with kind case numbers rows ≡ proof

pub made_of : (kind : Kind) (case : SampleCase) → IsCase case
    → (numbers : List ℕ) (proof : ProofValue) → proof_by kind case numbers ≡ Ok proof
    → IsMadeOf kind case numbers proof
unfolding proof_by
made_of kind case is numbers proof made =
    let given = bind_ok (rows_onto case [] (length case.seats)) (proof_unless_dry kind case numbers)
    proof made in
    let rows = given.0 in
    let passed = none_dry (proof_with kind case numbers rows) proof
    (first_dry_in (source_of (proof_with kind case numbers rows))) given.2 in
    record { rows = rows; all = all_rows case is rows given.1; none = passed.0; same = passed.1 }

-- of a case whose numbers are right, it is honest
pub is_honest : (kind : Kind) (case : SampleCase) → IsCase case → (numbers : List ℕ)
    → IsShown kind case numbers
    → (proof : ProofValue) → proof_by kind case numbers ≡ Ok proof → IsProof proof
is_honest kind case is numbers shown proof made =
    let of = made_of kind case is numbers proof made in
    subst (λ p. IsProof p) of.same (is_proof kind case is numbers shown of.rows of.all of.none)

-- ---- what refuses it

dry_refuses : (proof : ProofValue) (source : TapeSource) (refused : JobErr)
    → TapesAnswer (Err refused) source
    → Refuses (dry_of (of_job refused)) (unless_dry proof (first_dry_in source))
dry_refuses proof source (job.DrySeed lane wire) is = ap (unless_dry proof) is
dry_refuses proof source job.NoMemory is = tt

module _ (kind : Kind) (case : SampleCase) (numbers : List ℕ) (rows : List SealRow) (rows_are : rows_onto case [] (length case.seats) ≡ Ok rows)
    (plan : PlanValue) (plan_is : plan ≡ plan_of kind (length case.seats) numbers) (further : ℕ) (further_is : further ≡ length plan.kinds - plan.inputs) where
  same_source : source_with case.auction rows case.lanes case.seed further
      ≡ source_of (proof_with kind case numbers rows)
  same_source = ap (source_with case.auction rows case.lanes case.seed)
      (further_is ∙ ap (λ (p : PlanValue). length p.kinds - p.inputs) plan_is)

  pub tapes_refuse : (refused : JobErr)
      → TapesAnswer (Err refused) (source_with case.auction rows case.lanes case.seed further)
      → Refuses (dry_of (of_job refused)) (proof_by kind case numbers)
  unfolding proof_by
  tapes_refuse refused is =
      subst (λ r. Refuses (dry_of (of_job refused)) (r >>= proof_unless_dry kind case numbers))
      (sym rows_are)
      (dry_refuses (proof_with kind case numbers rows)
      (source_of (proof_with kind case numbers rows)) refused
      (subst (TapesAnswer (Err refused)) same_source is))

  pub tapes_pass : (values : List ℕ) → values ≡ values_of kind (length case.seats) numbers case.bids
      → first_dry_in (source_with case.auction rows case.lanes case.seed further) ≡ None
      → proof_by kind case numbers
      ≡ Ok (job_proofs.proof_with case.auction rows case.lanes case.seed plan values)
  unfolding proof_by
  tapes_pass values values_are none =
      let made : PlanValue → List ℕ → Result ProofValue DrySeed =
      λ p vs. Ok (job_proofs.proof_with case.auction rows case.lanes case.seed p vs) in
      ap (λ r. r >>= proof_unless_dry kind case numbers) rows_are
      ∙ ap (unless_dry (proof_with kind case numbers rows))
      (ap first_dry_in (sym same_source) ∙ none)
      ∙ ap (λ p. made p (values_of kind (length case.seats) numbers case.bids)) (sym plan_is)
      ∙ ap (made plan) (sym values_are)
