-- What two replies to a board come to: one of them isn't accepted, the challenges are the same, two
-- openings of one commitment, or bids.
use Rattle.std.specs.Prelude.{ℕ, All, List, Result}
use Rattle.vk_io.specs.Files.{Files}
use Rattle.vk_lines.specs.Lines.{Rest}
use Rattle.vk_board.specs.declared.front.Front.{Front}
use Rattle.vk_board.specs.Fronts.{IsFront}
use Rattle.vk_judge.specs.declared.answers.VErr.{VErr}
use Rattle.vk_judge.specs.declared.named.TwoReplies.{TwoReplies}
use Rattle.vk_judge.specs.Begun.{of_files}
use Rattle.vk_judge.specs.HeldFiles.{of_bytes}
use Rattle.vk_judge.specs.Opened.{Coming, file_coming}
use Rattle.vk_verifier.specs.declared.answers.BoardRefusal.{BoardRefusal}
use Rattle.vk_verifier.specs.declared.answers.BoardVerdict.{BoardVerdict}
use Rattle.vk_verifier.specs.declared.boards.PlacedHead.{PlacedHead}
use Rattle.vk_verifier.specs.Verdicts.{IsBoard, board_front, board_front_at, refused_verdict}
use Rattle.vk_bids.specs.declared.bids.LaneBids.{LaneBids}
use Rattle.vk_bids.specs.declared.extraction.Extracted.{Extracted}
use Rattle.vk_bids.specs.declared.extraction.Extraction.{Extraction as ExtractionOf}
use Rattle.vk_bids.specs.declared.extraction.Extraction.TheVariants.{Refused, Same, Clash, Bids}
use Rattle.vk_bids.specs.Extractions.{OfBids}
use Rattle.vk_bids.specs.FileExtraction.{FileExtraction, OpensValuesOf, extraction_of, file_of}
use Rattle.vk_bids.specs.Outcome.{LaneShows}

-- what two replies to a board come to
abbrev pub Extraction : Type 0
Extraction = ExtractionOf BoardVerdict Extracted

-- these bids, and what stands on the board before its first lane
abbrev pub shown_on : Front → List LaneBids → Extracted
shown_on front lanes = record { front = front; lanes = lanes }

-- what they come to of a file, as it is told of a board
abbrev pub as_extraction : FileExtraction PlacedHead BoardRefusal → Extraction
as_extraction (Refused second refusal) = Refused second (refused_verdict refusal)
as_extraction Same = Same
as_extraction (Clash two) = Clash two
as_extraction (Bids found) = Bids (shown_on (board_front (file_of found)) found.opened.lanes)

-- by what is to come
abbrev pub board_extraction : Coming PlacedHead BoardRefusal → Extraction
board_extraction coming = as_extraction (extraction_of coming)

-- what a board, a challenge and the reply to it, and another challenge and reply come to
abbrev pub extraction_at : Rest → Rest → Rest → Rest → Rest → Extraction
extraction_at board challenge reply other second =
    board_extraction (file_coming board_front_at board challenge reply other second)

-- their bytes
abbrev pub extraction_in : List ℕ → List ℕ → List ℕ → List ℕ → List ℕ → Extraction
extraction_in = of_bytes extraction_at

-- the same of the named files; or the first of them, in this order, that is missing or too long
unfoldable pub extraction_on : Files → List ℕ → List ℕ → List ℕ → List ℕ → List ℕ
    → Result Extraction VErr
extraction_on = of_files extraction_at

abbrev pub extraction_named : Files → TwoReplies → Result Extraction VErr
extraction_named files names =
    extraction_on files names.file.now names.challenge1.now names.reply1.now names.challenge2.now
    names.reply2.now

-- of bids: the front is that of a board whose price and winner may stand, and the bids of each lane
-- show the sale that it publishes
abbrev pub Shows : Extraction → Type 0
Shows = OfBids (λ found. IsFront found.front × All (LaneShows found.front) found.lanes)

-- the values are those of a board
abbrev pub AreOfBoard : FileExtraction PlacedHead BoardRefusal → Type 0
AreOfBoard = OfBids (OpensValuesOf IsBoard)
