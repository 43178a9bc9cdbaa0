-- The law of two replies to a board that are accepted for different challenges: the bids that they
-- open make the published sale; or they give two openings of one commitment.
use Rattle.std.specs.Prelude.{◌≡◌, ◌↔◌, ℕ, true, false, All, List, map, Ok}
use Rattle.vk_commit.specs.Commitment.{TwoOpeningsSeen}
use Rattle.vk_io.specs.Files.{Files}
use Rattle.vk_judge.specs.HeldFiles.{ComesOfHeld, HeldFiles}
use Rattle.vk_verifier.specs.Acceptance.{board_fronts}
use Rattle.vk_bids.specs.declared.extraction.Extracted.{Extracted}
use Rattle.vk_bids.specs.declared.extraction.Extraction.TheVariants.{Same}
use Rattle.vk_bids.specs.Extraction.{Extraction, extraction_at, extraction_in, extraction_on}
pub use Rattle.vk_bids.specs.Extractions.{IsFound}
use Rattle.vk_bids.specs.Extractions.{IsClashOr}
pub use Rattle.vk_bids.specs.OpenedBehind.{AcceptedBehindOpen, AgreesAt, IsClashBehind, IsFirstClashOf, IsOfBehind, IsOpened, OnlyAcceptedOpen, TwoAcceptedBehind, differing, differing_behind, lane_of}
pub use Rattle.vk_bids.specs.FileHeadline.{LaneAgrees, differing_in, shown_of}
use Rattle.vk_bids.specs.FileHeadline.{IsClashOf}
use Rattle.vk_bids.specs.FileHeadline as file
use Rattle.vk_bids.specs.Opening.{AreShownIn}
use Rattle.vk_bids.specs.Outcome.{ShowsOutcome}

-- two replies are accepted with one board, each with its challenge, and the challenges differ
abbrev pub TwoAccepted : List ℕ → List ℕ → List ℕ → List ℕ → List ℕ → Type 0
TwoAccepted = file.TwoAccepted board_fronts

-- two replies are accepted, and the challenges are the same
abbrev pub SameAccepted : List ℕ → List ℕ → List ℕ → List ℕ → List ℕ → Type 0
SameAccepted = file.SameAccepted board_fronts

-- the bids are of just the lanes whose two bits differ, in order. Those of each lane are opened by
-- what the replies show of it, they open its seals, and whatever the board's version, the sale that
-- they make under its reserve is the one that it publishes. In each of these lanes the spent
-- entries agree
pub record IsExtraction {board challenge reply other second : List ℕ}
    (two : TwoAccepted board challenge reply other second) (found : Extracted) : Type 0 where
  pub front : found.front ≡ two.first.front
  pub numbers : map (λ lane. lane.number) found.lanes ≡ differing_in two
  pub shown : All (λ lane. AreShownIn (shown_of two false lane.number)
      (shown_of two true lane.number) lane.bids) found.lanes
  pub outcomes : All (λ lane. ShowsOutcome (two.first.front) lane.number lane.bids) found.lanes
  pub agree : All (LaneAgrees two) (differing_in two)

-- one commitment of the board is opened with different values
abbrev pub IsExtractionClash : {board challenge reply other second : List ℕ}
    → TwoAccepted board challenge reply other second → TwoOpeningsSeen → Type 0
IsExtractionClash two = IsClashOf two

-- the extraction is the bids of the replies, or a clash of them
abbrev pub IsOf : {board challenge reply other second : List ℕ}
    → TwoAccepted board challenge reply other second → Extraction → Type 0
IsOf two = IsClashOr (IsExtractionClash two) (IsExtraction two)

-- two replies that are accepted for different challenges give the bids or a clash
abbrev pub AcceptedAreExtracted : Type 0
AcceptedAreExtracted = (board challenge reply other second : List ℕ)
    (two : TwoAccepted board challenge reply other second)
    → IsOf two (extraction_in board challenge reply other second)

-- only such replies give them
abbrev pub OnlyAcceptedAreExtracted : Type 0
OnlyAcceptedAreExtracted = (board challenge reply other second : List ℕ)
    → IsFound (extraction_in board challenge reply other second)
    → TwoAccepted board challenge reply other second

-- challenges are found to be the same exactly where both replies are accepted and they are
abbrev pub SameIsFound : Type 0
SameIsFound = (board challenge reply other second : List ℕ)
    → (extraction_in board challenge reply other second ≡ Same)
    ↔ SameAccepted board challenge reply other second

-- ---- in named files

-- what the bytes of the five files that are held come to
abbrev pub extraction_of_held : {files : Files} {board challenge reply other second : List ℕ}
    → HeldFiles files board challenge reply other second → Extraction
extraction_of_held held =
    extraction_in held.file_bytes held.first.challenge_bytes held.first.reply_bytes
    held.second.challenge_bytes held.second.reply_bytes

-- the extraction of named files is that of their bytes, where all are held and none is too long
abbrev pub FilesAreExtracted : Type 0
FilesAreExtracted = (files : Files) (board challenge reply other second : List ℕ)
    (extraction : Extraction)
    → (extraction_on files board challenge reply other second ≡ Ok extraction)
    ↔ ComesOfHeld extraction_at files board challenge reply other second extraction
