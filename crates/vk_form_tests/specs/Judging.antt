-- A sum file is a front of what judges and extracts files of every form.
use Rattle.std.specs.Prelude.{◌≡◌, ℕ, List, ◌++◌, All, map, Result, Ok}
use Rattle.vk_residue.specs.Steps.{◌>>=◌}
use Rattle.vk_io.specs.Files.{Files}
use Rattle.vk_lines.specs.Lines.{Rest}
use Rattle.vk_board.specs.declared.board.SealLines.{SealLines}
use Rattle.vk_board.specs.Reading.{seal_lines_at}
use Rattle.vk_judge.specs.declared.answers.Part.TheVariants as part
use Rattle.vk_judge.specs.declared.answers.Fault.{Fault}
use Rattle.vk_judge.specs.declared.answers.VErr.{VErr}
use Rattle.vk_judge.specs.declared.opened.Opened.{Opened}
use Rattle.vk_judge.specs.declared.opened.Refusal.{Refusal}
use Rattle.vk_judge.specs.Statement.{StatementValue}
use Rattle.vk_judge.specs.Behind.{in_part}
use Rattle.vk_judge.specs.Begun.{of_attempt, of_files}
use Rattle.vk_judge.specs.Opened.{file_judged, in_file}
use Rattle.vk_bids.specs.declared.bids.LaneBids.{LaneBids}
use Rattle.vk_bids.specs.declared.file_extraction.OpenedFile.{OpenedFile}
use Rattle.vk_bids.specs.Extractions.{OfBids}
use Rattle.vk_bids.specs.FileExtraction.{FileExtraction, file_extraction, file_of}
use Rattle.vk_bids.specs.Opening.{LaneOpens}
use Rattle.vk_form_tests.specs.declared.form.SumHead.{SumHead}
use Rattle.vk_form_tests.specs.Sums.{SumTo, sum_plan}
use Rattle.vk_form_tests.specs.Forms.{IsSumHead, sum_head_text, sum_head_at}

-- ---- the front

-- what the lanes of a file with this head and these seals are to show
abbrev pub sum_statement : SumHead → List SealLines → StatementValue
sum_statement head seals = record {
  auction = head.auction;
  lanes = 2;
  seals = seals;
  plan = sum_plan head.total;
}

abbrev pub opened_sum : SumHead → List SealLines → Opened SumHead
opened_sum head seals = record { head = head; statement = sum_statement head seals }

-- the head and the seals
unfoldable pub opened_at : Rest → Result (Opened SumHead × Rest) Fault
opened_at rest = do
  head ← in_part part.Board (sum_head_at rest)
  seals ← in_part part.Board (seal_lines_at 3 2 head.1)
  Ok (opened_sum head.0 seals.0, seals.1)

-- a sum file is refused for its lines alone
abbrev pub sum_front_at : Rest → Result (Opened SumHead × Rest) (Refusal Unit)
sum_front_at rest = in_file (opened_at rest)

-- the head is such, and the lanes are to show what it says
pub record IsSum (IsSuch : SumHead → Type 0) (opened : Opened SumHead) : Type 0 where
  pub such : IsSuch opened.head
  pub is : opened.statement ≡ sum_statement opened.head opened.statement.seals

-- the file begins with the text of the head
pub record Begins (file : List ℕ) (head : SumHead) : Type 0 where
  pub right : IsSumHead head
  pub more : List ℕ
  pub text : file ≡ sum_head_text head ++ more

-- ---- the named files

-- what is judged of one reply
unfoldable pub sum_judged_on : Files → List ℕ → List ℕ → List ℕ
    → Result (Result Unit (Refusal Unit)) VErr
sum_judged_on = of_attempt (file_judged sum_front_at)

-- what two replies come to
unfoldable pub sum_extraction_on : Files → List ℕ → List ℕ → List ℕ → List ℕ → List ℕ
    → Result (FileExtraction SumHead Unit) VErr
sum_extraction_on = of_files (file_extraction sum_front_at)

-- the values of the lane open its seals, and are numbers below 2^3 that come to the total
pub record LaneSums (s : StatementValue) (total : ℕ) (lane : LaneBids) : Type 0 where
  pub opens : LaneOpens s lane
  pub sums : SumTo total (map (λ bid. bid.bid) lane.bids)

-- the head is such, and the numbers of each lane come to its total
pub record OpenSums (IsSuch : SumHead → Type 0) (found : OpenedFile SumHead) : Type 0 where
  pub front : IsSum IsSuch (file_of found)
  pub lanes : All (LaneSums found.opened.statement found.head.total) found.opened.lanes

abbrev pub OpensSums : (SumHead → Type 0) → FileExtraction SumHead Unit → Type 0
OpensSums IsSuch = OfBids (OpenSums IsSuch)
