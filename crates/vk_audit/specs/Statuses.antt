-- What the statuses of `verify`, `extract`, `confront` and `report` mean, by the bytes of the named
-- files alone.
use Rattle.std.specs.Prelude.{◌≡◌, ◌≢◌, ◌⊎◌, ℕ, All, List, ◌++◌, Option}
use Rattle.vk_io.specs.Files.{Files, Modelled}
use Rattle.vk_seal.specs.declared.secret.Secret.{Secret}
use Rattle.vk_seal.specs.Texts.{secret_text}
use Rattle.vk_seal.specs.Values.{IsSecret}
use Rattle.vk_verifier.specs.declared.answers.BoardVerdict.{BoardVerdict}
use Rattle.vk_verifier.specs.declared.answers.BoardVerdict.TheVariants.{Accepted}
use Rattle.vk_verifier.specs.Refusals.{VerdictHolds}
use Rattle.vk_bids.specs.declared.extraction.Extracted.{Extracted}
use Rattle.vk_bids.specs.Extraction.{Extraction}
use Rattle.vk_bids.specs.declared.extraction.Extraction.TheVariants.{Same}
use Rattle.vk_bids.specs.Texts.{clash_text, extraction_text}
use Rattle.vk_judge.specs.HeldFiles.{HeldAttempt, IsHeldFile}
use Rattle.vk_bids.specs.Headline.{TwoAccepted, IsExtraction, IsExtractionClash, LaneAgrees, differing_in}
use Rattle.vk_bids.specs.Binding.{HoldsIn, IsClashWith, IsHeldBy, IsSealOf}
use Rattle.vk_report.specs.declared.report.Report.{Report}
use Rattle.vk_report.specs.Meaning.{IsReportOn}
use Rattle.vk_report.specs.Reports.{report_text}
use Rattle.vk_words.specs.Names.{VerifyWords, ExtractWords, ConfrontWords}
use Rattle.vk_effect.specs.Effects.{SaidValue, puts}
use Rattle.vk_audit.specs.Confrontations.{confront_said}
use Rattle.vk_audit.specs.Extractions.{extract_said}
use Rattle.vk_audit.specs.Findings.{ExtractionHolds}
use Rattle.vk_audit.specs.Inputs.{HoldsFiles}
use Rattle.vk_audit.specs.Reports.{report_said}
use Rattle.vk_audit.specs.Verdicts.{verify_said}

-- that status comes only where this holds; and where it does, it comes at every end of the command
pub record ComesExactly (wanted : ℕ) (Holds : Type 0) (status : ℕ) : Type 0 where
  pub only : status ≡ wanted → Holds
  pub always : Holds → status ≢ 6 → status ≢ 9 → status ≡ wanted

-- ---- `verify`

-- the named files are held, and the verdict holds of their bytes
pub record HasVerdict (files : Files) (names : VerifyWords) (verdict : BoardVerdict) : Type 0 where
  pub board : List ℕ
  pub board_is : IsHeldFile files names.board board
  pub attempt : HeldAttempt files names.attempt.challenge names.attempt.reply
  pub holds : VerdictHolds verdict board attempt.challenge_bytes attempt.reply_bytes

-- the reply is accepted with the board and the challenge
abbrev pub AcceptsFiles : Files → VerifyWords → Type 0
AcceptsFiles files names = HasVerdict files names Accepted

abbrev pub IsVerified : Files → VerifyWords → ℕ → Type 0
IsVerified files names status = ComesExactly 0 (AcceptsFiles files names) status

-- ---- `extract`

-- the named files are held, and both replies are accepted with the board, for challenges that
-- differ
pub record AcceptsTwoFiles (files : Files) (names : ExtractWords) : Type 0 where
  pub held : HoldsFiles files names
  pub two : TwoAccepted held.file_bytes held.first.challenge_bytes held.first.reply_bytes
      held.second.challenge_bytes held.second.reply_bytes

-- they are held, and the extraction holds of their bytes
pub record HasExtraction (files : Files) (names : ExtractWords) (extraction : Extraction) : Type 0
  where
    pub held : HoldsFiles files names
    pub holds : ExtractionHolds extraction held.file_bytes held.first.challenge_bytes
        held.first.reply_bytes held.second.challenge_bytes held.second.reply_bytes

-- both replies are accepted, for challenges that don't differ
abbrev pub AcceptsSameFiles : Files → ExtractWords → Type 0
AcceptsSameFiles files names = HasExtraction files names Same

abbrev pub IsSame : Files → ExtractWords → ℕ → Type 0
IsSame files names status = ComesExactly 7 (AcceptsSameFiles files names) status

-- what is put is the text of such a thing
pub record PutsText {X : Type 0} (IsSuch : X → Type 0) (text : X → List ℕ)
    (old new : List ℕ) : Type 0 where
  pub found : X
  pub is : IsSuch found
  pub put : new ≡ old ++ text found

-- the status is 0, and what is found is put; or it is 3, and a clash is
abbrev pub PutsFound : (PutsIt PutsClash : List ℕ → List ℕ → Type 0) → ℕ → Option (List ℕ)
    → Option (List ℕ) → Type 0
PutsFound PutsIt PutsClash status old new =
    ((status ≡ 0) × Modelled PutsIt old new) ⊎ ((status ≡ 3) × Modelled PutsClash old new)

-- what is put is the text of bids that both replies open, in all the lanes whose bits differ
abbrev pub PutsExtraction : {board first_challenge first_reply second_challenge
    second_reply : List ℕ}
    → TwoAccepted board first_challenge first_reply second_challenge second_reply → List ℕ
    → List ℕ → Type 0
PutsExtraction two = PutsText (IsExtraction two) extraction_text

-- what is put is the line of two openings of one commitment
abbrev pub PutsClash : {board first_challenge first_reply second_challenge second_reply : List ℕ}
    → TwoAccepted board first_challenge first_reply second_challenge second_reply → List ℕ
    → List ℕ → Type 0
PutsClash two = PutsText (IsExtractionClash two) clash_text

-- the status is 0, and the bids are put; or it is 3, and two openings are
abbrev pub IsExtracted : {board first_challenge first_reply second_challenge second_reply : List ℕ}
    → TwoAccepted board first_challenge first_reply second_challenge second_reply → ℕ
    → Option (List ℕ) → Option (List ℕ) → Type 0
IsExtracted two = PutsFound (PutsExtraction two) (PutsClash two)

-- ---- `confront`

-- the named files are held. Both replies are accepted with the board, for challenges that differ,
-- and open no commitment with two values in the lanes whose bits differ. The last file is the text
-- of a secret
pub record ConfrontsFiles (files : Files) (names : ConfrontWords) : Type 0 where
  pub held : HoldsFiles files names.replies
  pub two : TwoAccepted held.file_bytes held.first.challenge_bytes held.first.reply_bytes
      held.second.challenge_bytes held.second.reply_bytes
  pub agree : All (LaneAgrees two) (differing_in two)
  pub secret : Secret
  pub right : IsSecret secret
  pub file_is : IsHeldFile files names.secret (secret_text secret)

-- so it is, and the secret is held by the bids that the replies open: the board's seal of its seat
-- is the secret's, and in every lane whose bits differ both halves of that seal's bid are the
-- secret's, and so is the bid
pub record HoldsSecret (files : Files) (names : ConfrontWords) : Type 0 where
  pub confronts : ConfrontsFiles files names
  pub found : Extracted
  pub bids : IsExtraction confronts.two found
  pub held : IsHeldBy confronts.secret found

-- what is put is the line of two openings of one commitment of the secret's seal: the secret's, and
-- one that a reply shows in the first lane in which a half isn't the secret's
abbrev pub PutsSecretClash : Secret → Extracted → List ℕ → List ℕ → Type 0
PutsSecretClash secret found = PutsText (IsClashWith secret found) clash_text

-- of the bids that the replies open: the status is 0, and in every lane both halves of the bid of
-- that seal are the secret's; or it is 3, and two openings are put
pub record IsBound {files : Files} {names : ConfrontWords} (confronts : ConfrontsFiles files names)
    (index status : ℕ) (old new : Option (List ℕ)) : Type 0 where
  pub found : Extracted
  pub bids : IsExtraction confronts.two found
  pub ends : ((status ≡ 0) × All (HoldsIn confronts.secret index) found.lanes)
      ⊎ ((status ≡ 3) × Modelled (PutsSecretClash confronts.secret found) old new)

-- status 0 comes only where the secret is held; and where the board's seal at an index is the
-- secret's, every end of the command is one of these two
pub record BindsSecret (files : Files) (names : ConfrontWords) (status : ℕ)
    (old new : Option (List ℕ)) : Type 0 where
  pub only : status ≡ 0 → HoldsSecret files names
  pub always : (confronts : ConfrontsFiles files names) (index : ℕ)
      → IsSealOf (confronts.two.first.front) confronts.secret index
      → status ≢ 6 → status ≢ 9 → IsBound confronts index status old new

-- ---- `report`

-- a report on the named board is put
pub record PutsReport (files : Files) (board : List ℕ) (old new : Option (List ℕ)) : Type 0 where
  pub report : Report
  pub is : IsReportOn files board report
  pub put : new ≡ puts (report_text report) old

-- status 0 comes only with the report of the board; and where there is one, it comes at every end
-- of the command
pub record IsReported (files : Files) (board : List ℕ) (status : ℕ)
    (old new : Option (List ℕ)) : Type 0 where
  pub only : status ≡ 0 → PutsReport files board old new
  pub always : (report : Report) → IsReportOn files board report → status ≢ 6 → status ≢ 9
      → status ≡ 0

-- ---- the laws

-- of any files and names: this holds of the status that is said, and of what its text is put after
abbrev pub HoldsOfSaid : {Names : Type 0} → (Files → Names → SaidValue)
    → (Files → Names → ℕ → Option (List ℕ) → Option (List ℕ) → Type 0) → Type 0
HoldsOfSaid {Names} said Holds = (files : Files) (names : Names) (taken : Option (List ℕ))
    → Holds files names (said files names).status taken (puts (said files names).text taken)

abbrev pub VerifiesExactly : Type 0
VerifiesExactly = (files : Files) (names : VerifyWords)
    → IsVerified files names (verify_said files names).status

-- where both replies are accepted, for challenges that differ, what is found is said; and the
-- statuses 0 and 3 come only there
abbrev pub FindsExactly : (Files → ExtractWords → SaidValue)
    → (Accepts : Files → ExtractWords → Type 0)
    → ((files : Files) (names : ExtractWords) → Accepts files names → ℕ → Option (List ℕ)
    → Option (List ℕ) → Type 0) → Type 0
FindsExactly said Accepts Finds = HoldsOfSaid said (λ files names status old new.
    ((accepted : Accepts files names) → Finds files names accepted status old new)
    × ((status ≡ 0) ⊎ (status ≡ 3) → Accepts files names))

-- two replies that are accepted for different challenges give the bids or a clash, and only such
-- replies do
abbrev pub ExtractsExactly : Type 0
ExtractsExactly =
    FindsExactly extract_said AcceptsTwoFiles (λ files names accepted. IsExtracted accepted.two)

abbrev pub TellsSameExactly : Type 0
TellsSameExactly = (files : Files) (names : ExtractWords)
    → IsSame files names (extract_said files names).status

abbrev pub BindsExactly : Type 0
BindsExactly = HoldsOfSaid confront_said BindsSecret

abbrev pub ReportsExactly : Type 0
ReportsExactly = HoldsOfSaid report_said IsReported
