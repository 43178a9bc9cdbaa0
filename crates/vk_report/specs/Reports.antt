-- What is reported of a board's file, and the text of a report.
use Rattle.std.specs.Prelude.{◌≡◌, ℕ, ◌-◌, ◌*◌, List, [], ◌∷◌, ◌++◌, length, Contains, codes, decimal, Option, Some, None, Result, Ok, Err}
use Rattle.std.specs.List.{flat_map}
use Rattle.std.specs.FinMap.{get}
use Rattle.vk_residue.specs.Steps.{◌>>=◌}
use Rattle.vk_io.specs.Files.{Files}
use Rattle.vk_lines.specs.Forms.{line, spaced}
use Rattle.vk_lines.specs.declared.errors.StartErr.{StartErr}
use Rattle.vk_lines.specs.Lines.{Rest, end_at, started}
use Rattle.vk_board.specs.declared.board.Head.{Head}
use Rattle.vk_board.specs.declared.board.SealLines.{SealLines}
use Rattle.vk_board.specs.declared.front.Front.{Front}
use Rattle.vk_board.specs.Values.{IsHead, Shape}
use Rattle.vk_board.specs.Reading.{lanes_at, seats_of}
use Rattle.vk_board.specs.Texts.{told_text}
use Rattle.vk_board.specs.Fronts.{FrontFault, PriceStands, front_at}
use Rattle.vk_board.specs.Fronts as fronts
use Rattle.vk_vickrey.specs.Sales.{sale_at}
use Rattle.vk_vickrey.specs.BoardPlans.{BoardNumbers, board_numbers, board_wire_count, board_row_count}
use Rattle.vk_report.specs.Causes.{of_start}
use Rattle.vk_report.specs.declared.report.Report.{Report}
use Rattle.vk_report.specs.declared.report.ReportErr.{ReportErr}
use Rattle.vk_report.specs.declared.report.ReportErr.TheVariants.{Missing, TooLong, Malformed, Price, Winner, Failed, NoMemory}

-- the fault that a refusal tells
abbrev pub fault_of : ReportErr → Option ReportErr
fault_of Missing = Some Missing
fault_of TooLong = Some TooLong
fault_of (Malformed line) = Some (Malformed line)
fault_of Price = Some Price
fault_of Winner = Some Winner
fault_of Failed = None
fault_of NoMemory = None

-- a fault line of the board is the fault
abbrev pub in_board : {X : Type 0} → Result X ℕ → Result X ReportErr
in_board (Ok x) = Ok x
in_board (Err line) = Err (Malformed line)

-- ---- before the first lane

-- a fault before the first lane is the fault
abbrev pub in_front : {X : Type 0} → Result X FrontFault → Result X ReportErr
in_front (Ok x) = Ok x
in_front (Err (fronts.Malformed line)) = Err (Malformed line)
in_front (Err fronts.Price) = Err Price
in_front (Err fronts.Winner) = Err Winner

-- the numbers that a head publishes. What is counted doesn't ask where the winner's seal stands, so
-- the seat stands for its place
abbrev pub head_numbers : Head → BoardNumbers
head_numbers head = board_numbers head.version head.seals head.width head.reserve
    (sale_at head.winner head.price)

-- what a board with this head and these seals publishes; wires and rows are those of one lane
abbrev pub report_of : Head → List SealLines → Report
report_of head seals = record {
  head = head;
  seats = seats_of seals;
  wires = board_wire_count (head_numbers head);
  rows = board_row_count (head_numbers head);
}

abbrev pub report_with : Front → Report
report_with front = report_of front.head front.seals

-- the seat that won is one of these, where one won
abbrev pub IsWinnerOf : List ℕ → Option ℕ → Type 0
IsWinnerOf seats (Some seat) = Contains seats seat
IsWinnerOf seats None = Unit {0}

-- a report that was made: its price and its winner stand, and its numbers are those of its head
pub record IsReport (report : Report) : Type 0 where
  pub head : IsHead report.head
  pub price : PriceStands report.head
  pub winner : IsWinnerOf report.seats report.head.winner
  pub seats : length report.seats ≡ report.head.seals
  pub wires : report.wires ≡ board_wire_count (head_numbers report.head)
  pub rows : report.rows ≡ board_row_count (head_numbers report.head)

-- ---- the lanes and the end

-- how many wires after the inputs, and how many rows, each lane has
abbrev pub shape_of : Report → Shape
shape_of report = record { wires = report.wires - report.head.seals; rows = report.rows }

-- what is read is not kept
abbrev pub passed : {X : Type 0} → Result (X × Rest) ℕ → Result (Unit {0} × Rest) ℕ
passed (Ok read) = Ok (tt, read.1)
passed (Err line) = Err line

-- what is left after the lanes
abbrev pub lanes_passed : Report → Rest → Result (Unit {0} × Rest) ℕ
lanes_passed report rest = passed (lanes_at (λ _. shape_of report) report.head rest)

-- a board, from its first line to its end
unfoldable pub report_at : Rest → Result Report ReportErr
report_at rest = do
  front ← in_front (front_at rest)
  lanes ← in_board (lanes_passed (report_with front.0) front.1)
  over ← in_board (end_at lanes.1)
  Ok (report_with front.0)

-- ---- files on a shelf

-- a refusal to start is the fault
abbrev pub in_start : {X : Type 0} → Result X StartErr → Result X ReportErr
in_start (Ok x) = Ok x
in_start (Err refusal) = Err (of_start refusal)

-- the report of the named file, or its first fault
unfoldable pub report_on : Files → List ℕ → Result Report ReportErr
report_on files name = do
  rest ← in_start (started (get files name))
  report_at rest

-- ---- the text of a report

-- two commitments to each wire of each lane
unfoldable pub commitment_count : Report → ℕ
commitment_count report = 2 * report.wires * report.head.lanes

-- what the head says; the reserve and the winner in the lines of the board
unfoldable pub head_lines : Head → List ℕ
head_lines head = told_text head

abbrev pub seat_text : ℕ → List ℕ
seat_text seat = spaced (codes "seat" ∷ decimal seat ∷ [])

-- how many wires and rows each lane has, and how many commitments all lanes
unfoldable pub count_lines : ℕ → ℕ → ℕ → List ℕ
count_lines wires rows commitments =
    line (spaced (codes "wires" ∷ decimal wires ∷ []))
    ++ (line (spaced (codes "rows" ∷ decimal rows ∷ []))
    ++ line (spaced (codes "commitments" ∷ decimal commitments ∷ [])))

unfoldable pub report_text : Report → List ℕ
report_text report =
    head_lines report.head
    ++ (flat_map (λ seat. line (seat_text seat)) report.seats
    ++ (count_lines report.wires report.rows (commitment_count report)
    ++ line (codes "end")))
