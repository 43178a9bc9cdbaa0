-- What the statuses of `claim-verify` and `claim-extract` mean, by the bytes of the named files
-- alone.
use Rattle.std.specs.Prelude.{◌≡◌, ◌↔◌, ℕ, List, Option, Some, None, Result, Ok}
use Rattle.vk_io.specs.Files.{Files}
use Rattle.vk_judge.specs.declared.answers.VErr.{VErr}
use Rattle.vk_bids.specs.declared.extraction.Extraction.TheVariants.{Same}
use Rattle.vk_judge.specs.HeldFiles.{HeldAttempt, IsHeldFile}
use Rattle.vk_bids.specs.FileHeadline.{IsClashOf}
use Rattle.vk_bids.specs.Texts.{clash_text}
use Rattle.vk_plan.specs.Plans.{PlanValue}
use Rattle.vk_uniform.specs.UniformPlans.{IsUniformCase, IsUniformClaim, uniform_plan}
use Rattle.vk_matching.specs.MatchingPlans.{IsMatchingCase, IsMatchingClaim, matching_plan}
use Rattle.vk_words.specs.declared.claim.Kind.{Kind}
use Rattle.vk_words.specs.declared.claim.Kind.TheVariants.{Uniform, Matching}
use Rattle.vk_claim.specs.Extraction.{ClaimExtraction, IsClaimOpened, TwoClaimsAccepted}
use Rattle.vk_claim.specs.Printing.{claim_extraction_text}
use Rattle.vk_claim.specs.Verdicts.{ClaimJudged}
use Rattle.vk_words.specs.Names.{ExtractWords, VerifyWords}
use Rattle.vk_audit.specs.Answers.{AnswerHolds, SettlesExtract, TellsAnswer}
use Rattle.vk_audit.specs.Inputs.{HoldsFiles, extract_inputs, verify_inputs}
use Rattle.vk_audit.specs.Statuses.{ComesExactly, FindsExactly, HoldsOfSaid, PutsFound, PutsText}
use Rattle.vk_audit.specs.Verdicts.{answer_said, name_in, name_of, unread_said}
use Rattle.vk_claims.specs.Circuits.{admitted_plan, claimed}
use Rattle.vk_claims.specs.Extractions.{claim_extraction_said, claim_extract_said}
use Rattle.vk_claims.specs.Findings.{ClaimExtractionHolds, ClaimHolds}
use Rattle.vk_claims.specs.Verdicts.{claim_judged_said, claim_verify_said}

-- ---- public parts

-- a part of this kind is admitted exactly in such a case, by this plan, and this is what it claims
pub record Admits (kind : Kind) (inputs : ℕ) (numbers : List ℕ) (IsCase : Type 0) (plan : PlanValue)
    (IsClaim : List ℕ → Type 0) : Type 0 where
  pub admitted : IsCase → admitted_plan kind inputs numbers ≡ Some plan
  pub other : ¬ IsCase → admitted_plan kind inputs numbers ≡ None
  pub claims : (values : List ℕ) → claimed kind inputs numbers values ↔ IsClaim values

-- a sale of equal units, where it may have these numbers, which claims the outcome of the bids
abbrev pub AdmitsUniform : ℕ → List ℕ → Type 0
AdmitsUniform inputs numbers =
    Admits Uniform inputs numbers (IsUniformCase inputs numbers) (uniform_plan inputs numbers)
    (IsUniformClaim inputs numbers)

-- a matching, where it may have these numbers, which claims that no pair blocks it by the ranks
abbrev pub AdmitsMatching : ℕ → List ℕ → Type 0
AdmitsMatching inputs numbers =
    Admits Matching inputs numbers (IsMatchingCase inputs numbers) (matching_plan inputs numbers)
    (IsMatchingClaim inputs numbers)

-- ---- `claim-verify`

-- the named files are held, and judging their bytes comes to this
pub record HasClaimJudged (files : Files) (names : VerifyWords) (judged : ClaimJudged) : Type 0
  where
    pub board : List ℕ
    pub board_is : IsHeldFile files names.board board
    pub attempt : HeldAttempt files names.attempt.challenge names.attempt.reply
    pub holds : ClaimHolds admitted_plan judged board attempt.challenge_bytes attempt.reply_bytes

-- the reply is accepted with the claim file and the challenge
abbrev pub AcceptsClaim : Files → VerifyWords → Type 0
AcceptsClaim files names = HasClaimJudged files names (Ok tt)

-- status 0 comes exactly where the reply is accepted
abbrev pub IsClaimVerified : Files → VerifyWords → ℕ → Type 0
IsClaimVerified files names status = ComesExactly 0 (AcceptsClaim files names) status

-- every end says what holds, and every answer that holds is what is said
abbrev pub ClaimVerifyHolds : Files → VerifyWords → Result ClaimJudged VErr → Type 0
ClaimVerifyHolds files names =
    AnswerHolds files (name_in names) (verify_inputs names) (HasClaimJudged files names)

abbrev pub TellsClaimVerdict : Files → VerifyWords → ℕ → Option (List ℕ) → Option (List ℕ) → Type 0
TellsClaimVerdict files names status old new =
    TellsAnswer (ClaimVerifyHolds files names) (λ _. Unit {0})
    (answer_said (claim_judged_said (name_in names)) (unread_said (name_in names))) status old new

-- ---- `claim-extract`

-- the named files are held, and both replies are accepted with the claim file, for challenges that
-- differ
pub record AcceptsTwoClaims (files : Files) (names : ExtractWords) : Type 0 where
  pub held : HoldsFiles files names
  pub two : TwoClaimsAccepted admitted_plan held.file_bytes held.first.challenge_bytes
      held.first.reply_bytes held.second.challenge_bytes held.second.reply_bytes

-- they are held, and the extraction holds of their bytes
pub record HasClaimExtraction (files : Files) (names : ExtractWords)
    (extraction : ClaimExtraction) : Type 0 where
  pub held : HoldsFiles files names
  pub holds : ClaimExtractionHolds admitted_plan claimed extraction
      held.file_bytes held.first.challenge_bytes held.first.reply_bytes held.second.challenge_bytes
      held.second.reply_bytes

-- both replies are accepted, for challenges that don't differ
abbrev pub AcceptsSameClaims : Files → ExtractWords → Type 0
AcceptsSameClaims files names = HasClaimExtraction files names Same

-- status 7 comes exactly where both are accepted and the challenges don't differ
abbrev pub IsSameClaim : Files → ExtractWords → ℕ → Type 0
IsSameClaim files names status = ComesExactly 7 (AcceptsSameClaims files names) status

-- the status is 0, and the text of values is put: of every lane whose bits differ, opened by what
-- the replies show of it, which open the lane's seals, and of which the file's claim holds; or it
-- is 3, and two openings of one commitment are put
abbrev pub IsClaimExtracted : {file challenge reply other second : List ℕ}
    → TwoClaimsAccepted admitted_plan file challenge reply other second → ℕ → Option (List ℕ)
    → Option (List ℕ) → Type 0
IsClaimExtracted two =
    PutsFound (PutsText (IsClaimOpened admitted_plan claimed two) claim_extraction_text)
    (PutsText (IsClashOf two) clash_text)

-- every end says what holds, and every answer that holds is what is said, but for values and a
-- clash
abbrev pub ClaimExtractHolds : Files → ExtractWords → Result ClaimExtraction VErr → Type 0
ClaimExtractHolds files names =
    AnswerHolds files (name_of names) (extract_inputs names) (HasClaimExtraction files names)

abbrev pub TellsClaimExtraction : Files → ExtractWords → ℕ → Option (List ℕ) → Option (List ℕ)
    → Type 0
TellsClaimExtraction files names status old new =
    TellsAnswer (ClaimExtractHolds files names) SettlesExtract
    (answer_said (claim_extraction_said names) (unread_said (name_of names))) status old new

-- ---- the laws

abbrev pub VerifiesClaimsExactly : Type 0
VerifiesClaimsExactly = (files : Files) (names : VerifyWords)
    → IsClaimVerified files names (claim_verify_said files names).status

abbrev pub TellsClaimVerdicts : Type 0
TellsClaimVerdicts = HoldsOfSaid claim_verify_said TellsClaimVerdict

-- two replies that are accepted for different challenges give the values or a clash, and only such
-- replies do
abbrev pub ExtractsClaimsExactly : Type 0
ExtractsClaimsExactly = FindsExactly claim_extract_said AcceptsTwoClaims
    (λ files names accepted. IsClaimExtracted accepted.two)

abbrev pub TellsSameClaimsExactly : Type 0
TellsSameClaimsExactly = (files : Files) (names : ExtractWords)
    → IsSameClaim files names (claim_extract_said files names).status

abbrev pub TellsClaimExtractions : Type 0
TellsClaimExtractions = HoldsOfSaid claim_extract_said TellsClaimExtraction
