-- What a whole run of an auditor's command says, and of one on claims.
use Rattle.std.proofs.Common.{◌≡◌, ℕ, List, Option, Some, None, IfSome, sym, subst}
use Rattle.std.specs.Prelude.{◌⊎◌}
use Rattle.vk_io.specs.Files.{Files}
use Rattle.vk_keeper.specs.Ledgers.{Ledger}
use Rattle.vk_words.specs.Commands.{CommandWords, Audit, Claim, command_words}
use Rattle.vk_words.specs.Audits.{AuditWords}
use Rattle.vk_words.specs.Audits as audits
use Rattle.vk_words.specs.Claims as claims
use Rattle.vk_words.specs.Names.{ExtractWords}
use Rattle.vk_effect.specs.Effects.{Outside, SaidValue, outside, puts, says, stores}
use Rattle.vk_effect.specs.Ends.{Done}
use Rattle.vk_audit.specs.Answers.{TellsConfrontation, TellsExtraction, TellsReport, TellsVerdict}
use Rattle.vk_audit.specs.Audits.{audit_said}
use Rattle.vk_audit.specs.Extractions.{extract_said}
use Rattle.vk_audit.specs.Statuses.{AcceptsTwoFiles, BindsSecret, IsExtracted, IsReported, IsSame, IsVerified}
use Rattle.vk_audit.proofs.Binding.{binds_exactly, tells_confrontations}
use Rattle.vk_audit.proofs.Extracting.{extracts_exactly, tells_extractions, tells_same_exactly}
use Rattle.vk_audit.proofs.Reporting.{reports_exactly, tells_reports}
use Rattle.vk_audit.proofs.Verifying.{tells_verdicts, verifies_exactly}
use Rattle.vk_claims.specs.Extractions.{claim_extract_said}
use Rattle.vk_claims.specs.Statuses.{AcceptsTwoClaims, IsClaimExtracted, IsClaimVerified, IsSameClaim, TellsClaimExtraction, TellsClaimVerdict}
use Rattle.vk_claims.specs.Verdicts.{claim_verify_said}
use Rattle.vk_claims.proofs.Extracting.{extracts_claims_exactly, tells_claim_extractions, tells_same_claims_exactly}
use Rattle.vk_claims.proofs.Verifying.{tells_claim_verdicts, verifies_claims_exactly}
use Rattle.vk_app.specs.Commands.{DoesWork, Work, work_of, work_on}
use Rattle.vk_app.specs.Promises.{Audits, ClaimHeadline, Claims, Headline, OverFiles, PutsExactly, Says}

-- ---- at its end

module _ (files : Files) (ledger : Option Ledger) (words : List (List ℕ)) (status : ℕ) (old : Option (List ℕ)) (new : Outside)
    (ended : IfSome (work_on (Some files) ledger words) (λ work. DoesWork status work (outside (stores (Some files) ledger) old) new)) where
  abbrev EndsIt : Work → Type 0
  EndsIt work = DoesWork status work (outside (stores (Some files) ledger) old) new

  pub done_is : (command : CommandWords) → command_words words ≡ Some command
      → IfSome (work_of (Some files) ledger (Some command)) EndsIt
  done_is command is = subst (λ found. IfSome (work_of (Some files) ledger found) EndsIt) is ended

  -- what holds of the status and the text that are said holds of the end
  from_said : (said : SaidValue) (P : ℕ → Option (List ℕ) → Type 0)
      → Done status (says ledger said) (outside (stores (Some files) ledger) old) new
      → P said.status (puts said.text old) → P status new.taken
  from_said said P done is = subst (λ text. P status text) (sym done.taken_is)
      (subst (λ n. P n (puts said.text old)) (sym done.status_is) is)

  -- the words of a command that says this end so
  abbrev EndsAs : {N : Type 0} → (N → CommandWords) → (N → SaidValue) → Type 0
  EndsAs {N} command said = (names : N) → command_words words ≡ Some (command names)
      → Done status (says ledger (said names)) (outside (stores (Some files) ledger) old) new

  each_puts : (command : ExtractWords → CommandWords) (said : ExtractWords → SaidValue)
      (Accepts : ExtractWords → Type 0)
      (Puts : (names : ExtractWords) → Accepts names → ℕ → Option (List ℕ) → Type 0)
      → EndsAs command said
      → ((names : ExtractWords) → ((accepted : Accepts names)
      → Puts names accepted (said names).status (puts (said names).text old))
      × (((said names).status ≡ 0) ⊎ ((said names).status ≡ 3) → Accepts names))
      → PutsExactly words status command Accepts
      (λ names accepted. Puts names accepted status new.taken)
  each_puts command said Accepts Puts ends exactly = record {
    found = λ names is accepted _ _. from_said (said names) (Puts names accepted) (ends names is)
        ((exactly names).0 accepted);
    only = λ names is. from_said (said names) (λ n _. (n ≡ 0) ⊎ (n ≡ 3) → Accepts names)
        (ends names is) (exactly names).1;
  }

  each_says : {N : Type 0} (command : N → CommandWords) (said : N → SaidValue)
      (Means Tells : N → ℕ → Option (List ℕ) → Type 0) → EndsAs command said
      → ((names : N) → Means names (said names).status (puts (said names).text old))
      → ((names : N) → Tells names (said names).status (puts (said names).text old))
      → (names : N) → command_words words ≡ Some (command names)
      → Says status (Means names status new.taken) (Tells names status new.taken)
  each_says command said Means Tells ends means tells names is = record {
    means = from_said (said names) (Means names) (ends names is) (means names);
    tells = λ _ _. from_said (said names) (Tells names) (ends names is) (tells names);
  }

  -- of an auditor's command
  audit_says : {N : Type 0} (order : N → AuditWords)
      (Means Tells : N → ℕ → Option (List ℕ) → Type 0)
      → ((names : N) → let said = audit_said files (order names) in
      Means names said.status (puts said.text old))
      → ((names : N) → let said = audit_said files (order names) in
      Tells names said.status (puts said.text old))
      → (names : N) → command_words words ≡ Some (Audit (order names))
      → Says status (Means names status new.taken) (Tells names status new.taken)
  audit_says order Means Tells =
      each_says (λ names. Audit (order names)) (λ names. audit_said files (order names)) Means Tells
      (λ names. done_is (Audit (order names)))

  pub ended_headline : Headline files words status old new.taken
  ended_headline =
      each_puts (λ names. Audit (audits.Extract names)) (extract_said files) (AcceptsTwoFiles files)
      (λ names accepted n text. IsExtracted accepted.two n old text)
      (λ names. done_is (Audit (audits.Extract names))) (λ names. extracts_exactly files names old)

  pub ended_claim_headline : ClaimHeadline files words status old new.taken
  ended_claim_headline =
      each_puts (λ names. Claim (claims.Extract names)) (claim_extract_said files)
      (AcceptsTwoClaims files)
      (λ names accepted n text. IsClaimExtracted accepted.two n old text)
      (λ names. done_is (Claim (claims.Extract names)))
      (λ names. extracts_claims_exactly files names old)

  pub ended_audits : Audits files words status old new.taken
  ended_audits = record {
    verify = audit_says audits.Verify (λ names n _. IsVerified files names n)
        (λ names n text. TellsVerdict files names n old text) (verifies_exactly files)
        (λ names. tells_verdicts files names old);
    extract = audit_says audits.Extract (λ names n _. IsSame files names n)
        (λ names n text. TellsExtraction files names n old text) (tells_same_exactly files)
        (λ names. tells_extractions files names old);
    confront = audit_says audits.Confront (λ names n text. BindsSecret files names n old text)
        (λ names n text. TellsConfrontation files names n old text)
        (λ names. binds_exactly files names old) (λ names. tells_confrontations files names old);
    report = audit_says audits.Report (λ board n text. IsReported files board n old text)
        (λ board n text. TellsReport files board n old text)
        (λ board. reports_exactly files board old) (λ board. tells_reports files board old);
  }

  pub ended_claims : Claims files words status old new.taken
  ended_claims = record {
    verify = each_says (λ names. Claim (claims.Verify names)) (claim_verify_said files)
        (λ names n _. IsClaimVerified files names n)
        (λ names n text. TellsClaimVerdict files names n old text)
        (λ names. done_is (Claim (claims.Verify names))) (verifies_claims_exactly files)
        (λ names. tells_claim_verdicts files names old);
    extract = each_says (λ names. Claim (claims.Extract names)) (claim_extract_said files)
        (λ names n _. IsSameClaim files names n)
        (λ names n text. TellsClaimExtraction files names n old text)
        (λ names. done_is (Claim (claims.Extract names))) (tells_same_claims_exactly files)
        (λ names. tells_claim_extractions files names old);
  }

-- ---- as far as the files are modelled

-- so it is said of the files where they are modelled
module _ (P : Files → List (List ℕ) → ℕ → Option (List ℕ) → Option (List ℕ) → Type 0)
    (ended : (files : Files) (ledger : Option Ledger) (words : List (List ℕ)) (status : ℕ) (old : Option (List ℕ)) (new : Outside)
    → IfSome (work_on (Some files) ledger words) (λ work. DoesWork status work (outside (stores (Some files) ledger) old) new) → P files words status old new.taken) where
  pub told_of : (held : Option Files) (ledger : Option Ledger) (words : List (List ℕ)) (status : ℕ)
      (old : Option (List ℕ)) (new : Outside)
      → IfSome (work_on held ledger words)
      (λ work. DoesWork status work (outside (stores held ledger) old) new)
      → OverFiles P held words status old new.taken
  told_of None ledger words status old new is = tt
  told_of (Some files) ledger words status old new is = ended files ledger words status old new is
