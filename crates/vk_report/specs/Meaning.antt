-- When a file is reported on, by its whole text, and why another isn't.
use Rattle.std.specs.Prelude.{◌≡◌, ◌↔◌, ◌⊎◌, ℕ, ◌-◌, ◌^◌, ◌<◌, ◌≤◌, List, ◌++◌, length, Some, None, Ok, Err}
use Rattle.std.specs.FinMap.{get}
use Rattle.vk_io.specs.Files.{Files}
use Rattle.vk_lines.specs.Forms.{fault_line}
use Rattle.vk_board.specs.declared.board.Head.{Head}
use Rattle.vk_board.specs.declared.board.SealLines.{SealLines}
use Rattle.vk_board.specs.declared.front.Front.{Front}
use Rattle.vk_board.specs.Values.{Board, Shape, IsBoard}
use Rattle.vk_board.specs.Texts.{board_text}
use Rattle.vk_board.specs.Tables.{board_table}
use Rattle.vk_board.specs.Fronts.{IsFront, front_text, PriceStands, Begins, PriceFails, WinnerFails}
use Rattle.vk_board.specs.Reading.{seats_of}
use Rattle.vk_vickrey.specs.BoardPlans.{board_wire_count, board_row_count}
use Rattle.vk_report.specs.declared.report.Report.{Report}
use Rattle.vk_report.specs.declared.report.ReportErr.{ReportErr}
use Rattle.vk_report.specs.declared.report.ReportErr.TheVariants.{Missing, TooLong, Malformed, Price, Winner, Failed, NoMemory}
use Rattle.vk_report.specs.Reports.{IsWinnerOf, head_numbers, report_of, report_at, report_on}

-- how many wires after the inputs, and how many rows, each lane of the auction has
abbrev pub auction_shape : Head → Shape
auction_shape head = record {
  wires = board_wire_count (head_numbers head) - head.seals;
  rows = board_row_count (head_numbers head);
}

-- the file is the text of a board whose price and winner may stand, and the report says what it
-- publishes
pub record Publishes (file : List ℕ) (report : Report) : Type 0 where
  pub board : Board
  pub text : file ≡ board_text board
  pub is_board : IsBoard auction_shape board
  pub price : PriceStands board.head
  pub winner : IsWinnerOf (seats_of board.seals) board.head.winner
  pub report_is : report ≡ report_of board.head board.seals

-- a file of that name is held, has at most 2^30 bytes, and this holds of them
pub record HoldsOfNamed (files : Files) (name : List ℕ) (Holds : List ℕ → Type 0) : Type 0 where
  pub file : List ℕ
  pub held : get files name ≡ Some file
  pub short : length file ≤ 2 ^ 30
  pub holds : Holds file

-- the named file publishes what the report says
abbrev pub IsReportOn : Files → List ℕ → Report → Type 0
IsReportOn files name report = HoldsOfNamed files name (λ file. Publishes file report)

abbrev pub ReportedExactly : Type 0
ReportedExactly = (files : Files) (name : List ℕ) (report : Report)
    → (report_on files name ≡ Ok report) ↔ IsReportOn files name report

-- ---- why a file isn't reported on

-- the file begins with what stands before the first lane of a board, and its price and its winner
-- may stand
pub record HasSomeFront (file : List ℕ) : Type 0 where
  pub front : Front
  pub right : IsFront front
  pub more : List ℕ
  pub text : file ≡ front_text front ++ more

-- the file has that fault line as a board; and it doesn't begin with a head and its seals, or its
-- price and its winner may stand
pub record BoardFails (file : List ℕ) (line : ℕ) : Type 0 where
  pub fault : fault_line (board_table auction_shape) file ≡ Some line
  pub place : ((head : Head) (seals : List SealLines) → ¬ Begins file head seals)
      ⊎ HasSomeFront file

-- the refusal holds of the file's bytes
abbrev pub ReportFails : ReportErr → List ℕ → Type 0
ReportFails (Malformed line) file = BoardFails file line
ReportFails Price file = PriceFails file
ReportFails Winner file = WinnerFails file
ReportFails Missing file = ⊥
ReportFails TooLong file = ⊥
ReportFails Failed file = ⊥
ReportFails NoMemory file = ⊥

-- the refusal holds of the named file
abbrev pub FailsIn : Files → List ℕ → ReportErr → Type 0
FailsIn files name refusal = HoldsOfNamed files name (ReportFails refusal)

-- the named file isn't reported on: none is held, it has more than 2^30 bytes, or the refusal holds
-- of its bytes
abbrev pub IsUnreported : Files → List ℕ → ReportErr → Type 0
IsUnreported files name Missing = get files name ≡ None
IsUnreported files name TooLong = (file : List ℕ) × (get files name ≡ Some file)
    × (2 ^ 30 < length file)
IsUnreported files name refusal = FailsIn files name refusal

-- bytes are refused exactly for what holds of them
abbrev pub RefusedExactly : Type 0
RefusedExactly = (refusal : ReportErr) (file : List ℕ)
    → (report_at (record { taken = 0; left = file }) ≡ Err refusal) ↔ ReportFails refusal file

-- so is a named file
abbrev pub UnreportedExactly : Type 0
UnreportedExactly = (files : Files) (name : List ℕ) (refusal : ReportErr)
    → (report_on files name ≡ Err refusal) ↔ IsUnreported files name refusal
