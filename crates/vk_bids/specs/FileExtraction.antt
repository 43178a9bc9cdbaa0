-- What two replies to a file of any form come to: one of them is refused, the challenges are the
-- same, two openings of one commitment, or the values of the lanes whose bits differ.
use Rattle.std.specs.Prelude.{◌≡◌, ℕ, All, List, [], Option, Some, IfSome, IsSomeAnd, Result, Ok}
use Rattle.vk_commit.specs.Commitment.{TwoOpeningsSeen}
use Rattle.vk_lines.specs.Lines.{Rest}
use Rattle.vk_judge.specs.declared.opened.Opened.{Opened}
use Rattle.vk_judge.specs.declared.opened.Refusal.{Refusal}
use Rattle.vk_judge.specs.declared.stage.Finding.{Finding}
use Rattle.vk_judge.specs.declared.stage.Finding.TheVariants as finds
use Rattle.vk_judge.specs.Statement.{IsStatement}
use Rattle.vk_judge.specs.HeldFiles.{of_bytes}
use Rattle.vk_judge.specs.Two.{Ahead}
use Rattle.vk_judge.specs.Opened.{Coming, FileBase, Front, coming_past, file_coming, opened_in}
use Rattle.vk_bids.specs.declared.bids.LaneBids.{LaneBids}
use Rattle.vk_bids.specs.declared.extraction.Extraction.{Extraction}
use Rattle.vk_bids.specs.declared.extraction.Extraction.TheVariants.{Refused, Same}
use Rattle.vk_bids.specs.declared.file_extraction.OpenedFile.{OpenedFile}
use Rattle.vk_bids.specs.Extractions.{IsFound, OfBids, comes_to}
use Rattle.vk_bids.specs.Gathering.{gathered_from}
use Rattle.vk_bids.specs.LaneExtraction.{opened_of}
use Rattle.vk_bids.specs.Opening.{LaneOpens}

abbrev pub FileExtraction : Type 0 → Type 0 → Type 0
FileExtraction H R = Extraction (Refusal R) (OpenedFile H)

-- these values, of the file that was opened
abbrev pub values_of : {H : Type 0} → Opened H → List LaneBids → OpenedFile H
values_of file lanes = record { head = file.head; opened = opened_of file.statement lanes }

-- these values, and what was read before the first lane
abbrev pub opened_by : {H : Type 0} → FileBase H → List LaneBids → OpenedFile H
opened_by known = values_of (opened_in known)

-- by what was read before the first lane, and what is given and found then
abbrev pub extraction_of : {H R : Type 0} → Coming H R → FileExtraction H R
extraction_of coming = comes_to (λ known. known.base.statement) opened_by coming.base coming.ahead

-- after what was read before the first lane
abbrev pub extraction_past : {H R : Type 0} → Result (Opened H × Rest) (Refusal R) → Rest → Rest
    → Rest → Rest → FileExtraction H R
extraction_past opened challenge reply other second =
    extraction_of (coming_past opened challenge reply other second)

-- of a file, a challenge and the reply to it, and another challenge and reply
abbrev pub file_extraction : {H R : Type 0} → Front H R → Rest → Rest → Rest → Rest → Rest
    → FileExtraction H R
file_extraction front file challenge reply other second =
    extraction_of (file_coming front file challenge reply other second)

-- of their bytes
abbrev pub file_extraction_in : {H R : Type 0} → Front H R → List ℕ → List ℕ → List ℕ → List ℕ
    → List ℕ → FileExtraction H R
file_extraction_in front = of_bytes (file_extraction front)

-- ---- what is opened, whatever the files are

-- the file of the values
abbrev pub file_of : {H : Type 0} → OpenedFile H → Opened H
file_of found = record { head = found.head; statement = found.opened.statement }

-- the values of each lane open its seals, and are inputs for which the statement's circuit holds
pub record OpensValuesOf {H : Type 0} (IsSuch : Opened H → Type 0)
    (found : OpenedFile H) : Type 0 where
  pub such : IsSuch (file_of found)
  pub statement : IsStatement found.opened.statement
  pub lanes : All (LaneOpens found.opened.statement) found.opened.lanes

-- of the file that was opened
abbrev pub OpensFile : {H R : Type 0} → Result (Opened H) (Refusal R) → FileExtraction H R → Type 0
OpensFile opened = OfBids (OpensValuesOf (λ file. opened ≡ Ok file))

-- of the file that is known
abbrev pub OpensBase : {H R : Type 0} → Option (FileBase H) → FileExtraction H R → Type 0
OpensBase base = OfBids (OpensValuesOf (λ file. IsSomeAnd base (λ known. opened_in known ≡ file)))

-- what is found and gathered in the end is what was ahead
pub record ComesTo {H R : Type 0} (base : Option (FileBase H)) (ahead : Ahead (Refusal R))
    (found : Option (Finding (Refusal R))) (gathered : Result (List LaneBids) TwoOpeningsSeen)
    : Type 0 where
  pub finding : found ≡ Some ahead.finding
  pub gathers : IfSome base
      (λ known. gathered_from known.base.statement (Ok []) 1 ahead.lanes ≡ gathered)

-- ---- by what is found

-- the extraction is what is found: a refusal, the same challenges, or values or a clash
abbrev pub IsFoundBy : {R V X : Type 0} → (R → V) → Finding R → Extraction V X → Type 0
IsFoundBy told (finds.Refused second refusal) extraction =
    extraction ≡ Refused second (told refusal)
IsFoundBy told finds.Same extraction = extraction ≡ Same
IsFoundBy told finds.Ready extraction = IsFound extraction
