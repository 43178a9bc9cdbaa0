-- How `claim-sample` ends, from what its parts did.
use Rattle.std.proofs.Common.{◌≡◌, ℕ, List, ◌++◌, length, Option, Result, Ok, Err, refl, sym, ap, subst, ◌∙◌, inl, inr}
use Rattle.std.specs.Prelude.{IfOk, IfSome, IsErr, IsSome}
use Rattle.vk_io.specs.Files.{Files, Modelled}
use Rattle.vk_io.specs.Writing.{WritesAll, written}
use Rattle.vk_io.specs.declared.errors.OutsideErr.{OutsideErr}
use Rattle.vk_residue.specs.declared.memory.NoMemory.{NoMemory}
use Rattle.vk_lines.specs.Gives.{Refuses}
use Rattle.vk_keeper.specs.Ledgers.{Ledger}
use Rattle.vk_job.specs.Proofs.{ProofValue}
use Rattle.vk_report.specs.declared.sample.SampleCase.{SampleCase}
use Rattle.vk_report.specs.Samples.{IsCaseOf}
use Rattle.vk_words.specs.declared.claim.Kind.{Kind}
use Rattle.vk_words.specs.declared.claim.Kind.TheVariants.{Uniform, Matching}
use Rattle.vk_effect.specs.Effects.{SaidValue, Stores, stores}
use Rattle.vk_effect.specs.Ends.{Acts}
use Rattle.vk_effect.proofs.Acting.{if_some_map}
use Rattle.vk_sample_parts.specs.Auctions.{DrySeed}
use Rattle.vk_sample_parts.specs.Effects.{modelled_effect}
use Rattle.vk_sample_parts.specs.Texts.{dry_said, found_text, same_count}
use Rattle.vk_sample_parts.proofs.Acting.{dry_acts, holding_done, reading_stopped, stopped_first}
use Rattle.vk_claims.proofs.Opened.{opens}
use Rattle.vk_claims.proofs.Sales.{numbers_are}
use Rattle.vk_claims.specs.Claims.{IsMatchingOf, MayPublish, claim_case, proof_by, sizes_of}
use Rattle.vk_claims.specs.ClaimSamples.{ActsFreely, ActsSo, claim_sample_on, effect_by, effect_with}
use Rattle.vk_claims.specs.Texts.{claim_read, files_of, made_text, read_said, summary_said}

module _ (kind : Kind) (case : SampleCase) (is : IsCaseOf (sizes_of kind) case) (numbers : List ℕ) (published : MayPublish kind case numbers)
    (proof : ProofValue) (made : proof_by kind case numbers ≡ Ok proof) (number : ℕ) (text : List ℕ) (text_is : text ≡ made_text kind number proof.lanes proof.plan) where
  -- the files that were written are read back, and open every value
  reads_back : (files : Files)
      → read_said text (claim_read (written (files_of kind case numbers proof) files))
      ≡ summary_said kind number proof
  reads_back files =
      let all = opens kind case is numbers published proof made in
      let of : List ℕ → ℕ → ℕ → SaidValue =
      λ front lanes same. record { status = 0; text = front ++ found_text lanes same } in
      let same = same_count all.found.head.inputs all.found.opened.lanes in
      ap (read_said text) (all.read files)
      ∙ (ap (λ front. of front (length all.found.opened.lanes) same) text_is
      ∙ (ap (λ lanes. of (made_text kind number proof.lanes proof.plan) lanes same) all.all_lanes
      ∙ ap (of (made_text kind number proof.lanes proof.plan) proof.lanes) all.all_same))

  -- and this is said of them, unless the reading is stopped
  pub read_acts : (ledger : Option Ledger) (held left now : Option Files)
      (answer : Result SaidValue OutsideErr)
      → Modelled (WritesAll {E = OutsideErr} (files_of kind case numbers proof) (Ok tt)) held left
      → now ≡ left
      → IfSome left (λ files. IfOk answer (λ said. said ≡ read_said text (claim_read files)))
      → IfSome (effect_by kind held ledger number case numbers (Ok proof))
      (λ effect. Acts answer effect (stores held ledger) (stores now ledger))
  read_acts ledger held left now (Err stop) told same said_is =
      reading_stopped (files_of kind case numbers proof) (summary_said kind number proof) ledger
      held left now stop told same
  read_acts ledger held left now (Ok said) told same said_is =
      holding_done (files_of kind case numbers proof) (summary_said kind number proof) ledger
      (λ files. read_said text (claim_read files)) reads_back held left now said told same said_is

-- ---- which effect it is

module _ (number : ℕ) (numbers : List ℕ) (old new : Stores) where
  freely : (answer : Result SaidValue OutsideErr)
      → IsMatchingOf (claim_case Matching number) numbers
      → IfSome (effect_with Matching old.files old.ledger number numbers)
      (λ effect. Acts answer effect old new) → ActsFreely Matching number answer old new
  freely (Ok said) published acts = (numbers, published, acts)
  freely (Err stop) published acts = inr (numbers, published, acts)

  by_kind : (kind : Kind) (answer : Result SaidValue OutsideErr)
      → MayPublish kind (claim_case kind number) numbers
      → IfSome (effect_with kind old.files old.ledger number numbers)
      (λ effect. Acts answer effect old new) → ActsSo kind number answer old new
  by_kind Uniform answer published acts = record {
    acts = subst (λ ns. IfSome (effect_with Uniform old.files old.ledger number ns)
        (λ effect. Acts answer effect old new))
        (numbers_are number (claim_case Uniform number) numbers refl published) acts;
    free = tt;
  }
  by_kind Matching answer published acts = record { acts = tt; free = freely answer published acts }

-- the case is that of the number, the numbers may be published of it, and this comes of its seeds
pub claim_acts : (kind : Kind) (number : ℕ) (case : SampleCase) (numbers : List ℕ)
    (made : Result ProofValue DrySeed) (answer : Result SaidValue OutsideErr) (old new : Stores)
    → case ≡ claim_case kind number → MayPublish kind case numbers
    → proof_by kind case numbers ≡ made
    → IfSome (effect_by kind old.files old.ledger number case numbers made)
    (λ effect. Acts answer effect old new) → ActsSo kind number answer old new
unfolding effect_with
claim_acts kind number case numbers made answer old new case_is published comes acts =
    let P : SampleCase → Type 0 =
    λ c. IfSome (effect_by kind old.files old.ledger number c numbers (proof_by kind c numbers))
    (λ effect. Acts answer effect old new) in
    let Q : Result ProofValue DrySeed
    → Type 0 = λ m. IfSome (effect_by kind old.files old.ledger number case numbers m)
    (λ effect. Acts answer effect old new) in
    by_kind number numbers old new kind answer
    (subst (λ c. MayPublish kind c numbers) case_is published)
    (subst P case_is (subst Q (sym comes) acts))

-- it was stopped before any numbers were found, and nothing changed
pub stopped_so : (kind : Kind) (number : ℕ) (answer : Result SaidValue OutsideErr)
    → IsErr answer → (old : Stores) → ActsSo kind number answer old old
stopped_so kind number (Ok said) refused old = absurd (let e = refused in cc)
stopped_so Uniform number (Err stop) refused old =
    record {
      acts = stopped_first (claim_sample_on old.files old.ledger Uniform number) old stop;
      free = tt;
    }
stopped_so Matching number (Err stop) refused old = record { acts = tt; free = inl refl }

-- ---- of what was made and found

module _ (kind : Kind) (number : ℕ) (case : SampleCase) (case_is : case ≡ claim_case kind number)
    (found numbers : List ℕ) (published : MayPublish kind case found) (numbers_are_found : numbers ≡ found) where
  may : MayPublish kind case numbers
  may = subst (MayPublish kind case) (sym numbers_are_found) published

  -- its files were to be written and read back
  pub held_so : (proof : ProofValue) (answer : Result SaidValue OutsideErr) (old new : Stores)
      → proof_by kind case numbers ≡ Ok proof
      → IfSome (effect_by kind old.files old.ledger number case numbers (Ok proof))
      (λ effect. Acts answer effect old new) → ActsSo kind number answer old new
  held_so proof answer old new made acts =
      claim_acts kind number case numbers (Ok proof) answer old new case_is may made acts

  -- a seed is dry
  pub dry_so : (dry : Option DrySeed) (said : SaidValue) (files : Option Files)
      (ledger : Option Ledger) → Refuses dry (proof_by kind case numbers)
      → IfSome dry (λ seed. ◌≡◌ {A = Result SaidValue NoMemory} (Ok said) (Ok (dry_said seed)))
      → IsSome dry
      → ActsSo kind number (Ok said) (stores files ledger) (stores files ledger)
  dry_so dry said files ledger refuses is some =
      claim_acts kind number case numbers (proof_by kind case numbers) (Ok said)
      (stores files ledger) (stores files ledger) case_is may refl
      (dry_acts dry (proof_by kind case numbers) files ledger
      (λ proof. modelled_effect files ledger (files_of kind case numbers proof)
      (summary_said kind number proof)) said refuses
      (if_some_map _ _ (λ seed. same_said said (dry_said seed)) dry is) some)
    where
      same_said : (one other : SaidValue) → ◌≡◌ {A = Result SaidValue NoMemory} (Ok one) (Ok other)
          → one ≡ other
      same_said one other is = cc
