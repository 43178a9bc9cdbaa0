-- What every end of an auditor's command says: an answer that holds of the named files, by their
-- bytes alone.
use Rattle.std.specs.Prelude.{◌≡◌, ℕ, false, All, List, Option, Result, Ok, Err}
use Rattle.vk_io.specs.Files.{Files, Modelled}
use Rattle.vk_verifier.specs.declared.answers.BoardVerdict.{BoardVerdict}
use Rattle.vk_judge.specs.declared.answers.VErr.{VErr}
use Rattle.vk_judge.specs.declared.answers.VErr.TheVariants.{Missing, TooLong, Failed, NoMemory}
use Rattle.vk_bids.specs.declared.extraction.Extraction.{Extraction as ExtractionOf}
use Rattle.vk_bids.specs.Extraction.{Extraction}
use Rattle.vk_bids.specs.declared.confrontation.Confrontation.{Confrontation}
use Rattle.vk_bids.specs.declared.confrontation.Confrontation.TheVariants as comes
use Rattle.vk_bids.specs.declared.confrontation.ConfrontErr.{ConfrontErr}
use Rattle.vk_bids.specs.declared.confrontation.ConfrontErr.TheVariants.{Unread, MissingSecret, TooLongSecret}
use Rattle.vk_judge.specs.HeldFiles.{IsHeldFile}
use Rattle.vk_bids.specs.Headline.{IsFound, LaneAgrees, TwoAccepted, differing_in}
use Rattle.vk_report.specs.declared.report.Report.{Report}
use Rattle.vk_report.specs.declared.report.ReportErr.{ReportErr}
use Rattle.vk_report.specs.Meaning.{IsReportOn, IsUnreported}
use Rattle.vk_words.specs.Names.{ConfrontWords, ExtractWords, VerifyWords}
use Rattle.vk_effect.specs.Effects.{SaidValue, IsSaid}
use Rattle.vk_audit.specs.Confrontations.{confrontation_said, confront_said, confront_unread_said}
use Rattle.vk_audit.specs.Extractions.{extraction_said, extract_said}
use Rattle.vk_audit.specs.Findings.{ConfrontationHolds}
use Rattle.vk_audit.specs.Inputs.{CanBeRead, HoldsFiles, IsMissing, IsTooLong, confront_inputs, extract_inputs, verify_inputs}
use Rattle.vk_audit.specs.Reports.{report_said, reported_said, unreported_said}
use Rattle.vk_audit.specs.Statuses.{HasExtraction, HasVerdict, HoldsOfSaid, PutsClash}
use Rattle.vk_audit.specs.Verdicts.{PartNames, answer_said, judged_said, name_in, name_of, unread_said, verify_said}

-- an answer that holds is said; and where one holds that settles what is said, it is that one
pub record TellsAnswer {Answer : Type 0} (Holds Settles : Answer → Type 0)
    (said : Answer → SaidValue) (status : ℕ) (old new : Option (List ℕ)) : Type 0 where
  pub answer : Answer
  pub holds : Holds answer
  pub says : IsSaid (said answer) status old new
  pub settled : (other : Answer) → Settles other → Holds other → IsSaid (said other) status old new

-- what is said of named files holds of them; or of these names, in their order, the first whose
-- file can't be read is that part's
abbrev pub AnswerHolds : {X : Type 0} → Files → PartNames → List (List ℕ) → (X → Type 0)
    → Result X VErr → Type 0
AnswerHolds files name inputs Holds (Ok value) = Holds value
AnswerHolds files name inputs Holds (Err (Missing part)) = IsMissing files inputs (name part)
AnswerHolds files name inputs Holds (Err (TooLong part)) = IsTooLong files inputs (name part)
AnswerHolds files name inputs Holds (Err Failed) = ⊥
AnswerHolds files name inputs Holds (Err NoMemory) = ⊥

-- ---- `verify`

abbrev pub VerifyHolds : Files → VerifyWords → Result BoardVerdict VErr → Type 0
VerifyHolds files names = AnswerHolds files (name_in names) (verify_inputs names)
    (HasVerdict files names)

-- every answer settles what is said
abbrev pub TellsVerdict : Files → VerifyWords → ℕ → Option (List ℕ) → Option (List ℕ) → Type 0
TellsVerdict files names status old new =
    TellsAnswer (VerifyHolds files names) (λ _. Unit {0})
    (answer_said (judged_said (name_in names) false) (unread_said (name_in names)))
    status old new

-- ---- `extract`

abbrev pub ExtractHolds : Files → ExtractWords → Result Extraction VErr → Type 0
ExtractHolds files names = AnswerHolds files (name_of names) (extract_inputs names)
    (HasExtraction files names)

-- all but bids and a clash settles what is said, whatever is said of a refusal and whatever is kept
-- of the bids
abbrev pub SettlesExtract : {V X : Type 0} → Result (ExtractionOf V X) VErr → Type 0
SettlesExtract (Ok extraction) = ¬ IsFound extraction
SettlesExtract (Err fault) = Unit {0}

abbrev pub TellsExtraction : Files → ExtractWords → ℕ → Option (List ℕ) → Option (List ℕ) → Type 0
TellsExtraction files names status old new =
    TellsAnswer (ExtractHolds files names) SettlesExtract
    (answer_said (extraction_said names) (unread_said (name_of names))) status old new

-- ---- `confront`

-- the named files are held, and the confrontation holds of their bytes
pub record HasConfrontation (files : Files) (names : ConfrontWords)
    (confrontation : Confrontation) : Type 0 where
  pub held : HoldsFiles files names.replies
  pub file : List ℕ
  pub file_is : IsHeldFile files names.secret file
  pub holds : ConfrontationHolds confrontation
      held.file_bytes held.first.challenge_bytes held.first.reply_bytes held.second.challenge_bytes
      held.second.reply_bytes file

abbrev pub ConfrontHolds : Files → ConfrontWords → Result Confrontation ConfrontErr → Type 0
ConfrontHolds files names (Ok confrontation) = HasConfrontation files names confrontation
ConfrontHolds files names (Err (Unread (Missing part))) =
    IsMissing files (confront_inputs names) (name_of names.replies part)
ConfrontHolds files names (Err (Unread (TooLong part))) =
    IsTooLong files (confront_inputs names) (name_of names.replies part)
ConfrontHolds files names (Err (Unread Failed)) = ⊥
ConfrontHolds files names (Err (Unread NoMemory)) = ⊥
ConfrontHolds files names (Err MissingSecret) = IsMissing files (confront_inputs names) names.secret
ConfrontHolds files names (Err TooLongSecret) = IsTooLong files (confront_inputs names) names.secret

-- all but that the secret is held, and a clash, settles what is said
abbrev pub SettlesConfront : Result Confrontation ConfrontErr → Type 0
SettlesConfront (Ok (comes.Refused second verdict)) = Unit {0}
SettlesConfront (Ok comes.Same) = Unit {0}
SettlesConfront (Ok (comes.Malformed line)) = Unit {0}
SettlesConfront (Ok (comes.NoSeal seat)) = Unit {0}
SettlesConfront (Ok (comes.Mismatch mismatch)) = Unit {0}
SettlesConfront (Ok (comes.Clash clash)) = ⊥
SettlesConfront (Ok (comes.Held seat)) = ⊥
SettlesConfront (Err fault) = Unit {0}

-- where two replies are accepted for different challenges, and in some lane whose bits differ open
-- a commitment with two values, the line of such a clash is put, whatever the secret's file holds
pub record TellsConfrontation (files : Files) (names : ConfrontWords) (status : ℕ)
    (old new : Option (List ℕ)) : Type 0 where
  pub told : TellsAnswer (ConfrontHolds files names) SettlesConfront
      (answer_said (confrontation_said names) (confront_unread_said names)) status old new
  pub clashes : (held : HoldsFiles files names.replies) → CanBeRead files names.secret
      → (two : TwoAccepted held.file_bytes held.first.challenge_bytes held.first.reply_bytes
      held.second.challenge_bytes held.second.reply_bytes)
      → ¬ All (LaneAgrees two) (differing_in two) → (status ≡ 3) × Modelled (PutsClash two) old new

-- ---- `report`

abbrev pub ReportHolds : Files → List ℕ → Result Report ReportErr → Type 0
ReportHolds files board (Ok report) = IsReportOn files board report
ReportHolds files board (Err refusal) = IsUnreported files board refusal

-- every answer settles what is said
abbrev pub TellsReport : Files → List ℕ → ℕ → Option (List ℕ) → Option (List ℕ) → Type 0
TellsReport files board status old new =
    TellsAnswer (ReportHolds files board) (λ _. Unit {0})
    (answer_said reported_said (unreported_said board)) status old new

-- ---- the laws

abbrev pub TellsVerdicts : Type 0
TellsVerdicts = HoldsOfSaid verify_said TellsVerdict

abbrev pub TellsExtractions : Type 0
TellsExtractions = HoldsOfSaid extract_said TellsExtraction

abbrev pub TellsConfrontations : Type 0
TellsConfrontations = HoldsOfSaid confront_said TellsConfrontation

abbrev pub TellsReports : Type 0
TellsReports = HoldsOfSaid report_said TellsReport
