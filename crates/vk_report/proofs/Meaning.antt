-- A file is reported on exactly where it is the text of a board whose price and winner may stand.
use Rattle.std.proofs.Common.{◌≡◌, ℕ, ◌^◌, ◌≤◌, nat_lt, Bool, true, false, if◌then◌else◌, List, length, Option, Some, None, Result, Ok, Err, refl, ap, sym, ◌∙◌, arith, subst}
use Rattle.std.specs.FinMap.{get}
use Rattle.std.proofs.lemmas.Bool.Decides.{nat_tests}
use Rattle.vk_residue.specs.Steps.{◌>>=◌}
use Rattle.vk_io.specs.Files.{Files}
use Rattle.vk_lines.specs.Lines.{Rest, end_at, started}
use Rattle.vk_lines.proofs.Parts.{bind_ok, ok_same}
use Rattle.vk_board.specs.declared.board.Head.{Head}
use Rattle.vk_board.specs.declared.board.SealLines.{SealLines}
use Rattle.vk_board.specs.declared.board.LaneLines.{LaneLines}
use Rattle.vk_board.specs.Values.{Board}
use Rattle.vk_board.specs.Reading.{head_at, seals_at, lanes_at, board_at}
use Rattle.vk_board.specs.declared.front.Front.{Front}
use Rattle.vk_board.specs.Fronts.{FrontFault, front_with, front_at}
use Rattle.vk_board.specs.Fronts as fronts
use Rattle.vk_board.specs.Published.{price_stands, placed}
use Rattle.vk_board.proofs.Boards.{board_is_whole, board_with}
use Rattle.vk_board.proofs.Prices.{price_found}
use Rattle.vk_board.proofs.Fronts.{FrontRead, front_right, front_at_shown, front_at_found}
use Rattle.vk_report.specs.declared.report.Report.{Report}
use Rattle.vk_report.specs.declared.report.ReportErr.{ReportErr}
use Rattle.vk_lines.specs.declared.errors.StartErr.TheVariants.{TooLong}
use Rattle.vk_report.specs.Reports.{in_board, in_front, passed, lanes_passed, report_of, report_with, report_at, in_start, report_on}
use Rattle.vk_report.proofs.Winner.{winner_is, winner_placed}
use Rattle.vk_report.specs.Meaning.{auction_shape, IsReportOn}

-- ---- results one after another

then_ok : {A B : Type 0} (r : Result A ReportErr) (f : A → Result B ReportErr) (y : B)
    → (r >>= f) ≡ Ok y → (x : A) × (r ≡ Ok x) × (f x ≡ Ok y)
then_ok (Ok x) f y h = (x, refl, h)
then_ok (Err fault) f y h = cc

given : {X : Type 0} (x y : X) → ◌≡◌ {A = Result X ReportErr} (Ok x) (Ok y) → x ≡ y
given x y same = cc

front_ok : {X : Type 0} (r : Result X FrontFault) (x : X) → in_front r ≡ Ok x → r ≡ Ok x
front_ok (Ok y) x h = ap (λ z. Ok z) (given y x h)
front_ok (Err (fronts.Malformed line)) x h = cc
front_ok (Err fronts.Price) x h = cc
front_ok (Err fronts.Winner) x h = cc

in_ok : {X : Type 0} (r : Result X ℕ) (x : X) → in_board r ≡ Ok x → r ≡ Ok x
in_ok (Ok y) x h = ap (λ z. Ok z) (given y x h)
in_ok (Err line) x h = cc

passed_ok : {X : Type 0} (r : Result (X × Rest) ℕ) (done : Unit {0}) (after : Rest)
    → passed r ≡ Ok (done, after) → (x : X) × (r ≡ Ok (x, after))
passed_ok (Ok read) done after h =
    (read.0, ap (λ p. Ok (read.0, p.1)) (ok_same (tt, read.1) (done, after) h))
passed_ok (Err line) done after h = cc

-- ---- the report and the board

-- the parts of a board in turn, each with what is left after it
module _ (rest : Rest) {after_head after_seals after_lanes over : Rest} {head : Head}
    {seals : List SealLines} {lanes : List LaneLines}
    (head_is : head_at rest ≡ Ok (head, after_head))
    (seals_are : seals_at head after_head ≡ Ok (seals, after_seals))
    (lanes_are : lanes_at auction_shape head after_seals ≡ Ok (lanes, after_lanes))
    (end_is : end_at after_lanes ≡ Ok (tt, over)) where
  board_joined : board_at auction_shape rest ≡ Ok (board_with head seals lanes, over)
  unfolding board_at
  board_joined = rw (head_is, seals_are, lanes_are, end_is) refl

  report_joined : (board : Board) (left : Rest) (position : Option ℕ)
      → ◌≡◌ {A = Result (Board × Rest) ℕ} (Ok (board_with head seals lanes, over)) (Ok (board, left))
      → price_stands board.head ≡ true → placed board.head.winner board.seals ≡ Some position
      → report_at rest ≡ Ok (report_of board.head board.seals)
  unfolding report_at
  report_joined board left position same =
      let P : Board × Rest → Type 0 = λ p. price_stands p.0.head ≡ true
      → placed p.0.head.winner p.0.seals ≡ Some position
      → report_at rest ≡ Ok (report_of p.0.head p.0.seals) in
      subst P (ok_same (board_with head seals lanes, over) (board, left) same) (λ price winner.
      let read = front_at_found rest (front_with head seals position) after_seals (record {
        middle = after_head;
        head_read = head_is;
        seals_read = seals_are;
        price = price;
        winner = winner;
      }) in
      rw (read, lanes_are, end_is) refl)

board_reported : (rest over : Rest) (board : Board) (position : Option ℕ)
    → board_at auction_shape rest ≡ Ok (board, over) → price_stands board.head ≡ true
    → placed board.head.winner board.seals ≡ Some position
    → report_at rest ≡ Ok (report_of board.head board.seals)
unfolding board_at
board_reported rest over board position some =
    let head = bind_ok (head_at rest)
    (λ head. ◌>>=◌ (seals_at head.0 head.1)
    (λ seals. ◌>>=◌ (lanes_at auction_shape head.0 seals.1)
    (λ lanes. ◌>>=◌ (end_at lanes.1) (λ last. Ok (board_with head.0 seals.0 lanes.0, last.1)))))
    (board, over) some in
    let seals = bind_ok (seals_at head.0.0 head.0.1)
    (λ seals. ◌>>=◌ (lanes_at auction_shape head.0.0 seals.1)
    (λ lanes. ◌>>=◌ (end_at lanes.1)
    (λ last. Ok (board_with head.0.0 seals.0 lanes.0, last.1)))) (board, over) head.2 in
    let lanes = bind_ok (lanes_at auction_shape head.0.0 seals.0.1)
    (λ lanes. ◌>>=◌ (end_at lanes.1)
    (λ last. Ok (board_with head.0.0 seals.0.0 lanes.0, last.1))) (board, over) seals.2 in
    let last = bind_ok (end_at lanes.0.1)
    (λ last. Ok (board_with head.0.0 seals.0.0 lanes.0.0, last.1)) (board, over) lanes.2 in
    report_joined rest head.1 seals.1 lanes.1 last.1 board over position last.2

-- a report, and the board that it is of
record IsReportOfBoard (rest : Rest) (report : Report) : Type 0 where
  pub front : Front
  pub after : Rest
  pub front_is : FrontRead rest front after
  pub lanes : List LaneLines
  pub over : Rest
  pub board_is : board_at auction_shape rest ≡ Ok (board_with front.head front.seals lanes, over)
  pub report_is : report ≡ report_with front

board_shown : (rest : Rest) (report : Report) → report_at rest ≡ Ok report
    → IsReportOfBoard rest report
unfolding report_at
board_shown rest report some =
    let front = then_ok (in_front (front_at rest))
    (λ front. in_board (lanes_passed (report_with front.0) front.1) >>= λ lanes.
    in_board (end_at lanes.1) >>= λ over. Ok (report_with front.0)) report some in
    let lanes = then_ok (in_board (lanes_passed (report_with front.0.0) front.0.1))
    (λ lanes. in_board (end_at lanes.1) >>= λ over. Ok (report_with front.0.0)) report front.2
    in
    let over = then_ok (in_board (end_at lanes.0.1)) (λ over. Ok (report_with front.0.0)) report
    lanes.2 in
    let read = passed_ok (lanes_at auction_shape front.0.0.head front.0.1) lanes.0.0 lanes.0.1
    (in_ok (lanes_passed (report_with front.0.0) front.0.1) lanes.0 lanes.1) in
    let is = front_at_shown rest front.0.0 front.0.1 (front_ok (front_at rest) front.0 front.1) in
    record {
      front = front.0.0;
      after = front.0.1;
      front_is = is;
      lanes = read.0;
      over = over.0.1;
      board_is = board_joined rest is.head_read is.seals_read read.1
          (in_ok (end_at lanes.0.1) over.0 over.1);
      report_is = sym (given (report_with front.0.0) report over.2);
    }

-- ---- files

started_by : (test : Bool) (bytes : List ℕ) (rest : Rest) → nat_lt (2 ^ 30) (length bytes) ≡ test
    → in_start (if test then Err TooLong else Ok (record { taken = 0; left = bytes })) ≡ Ok rest
    → (length bytes ≤ 2 ^ 30) × (record { taken = 0; left = bytes } ≡ rest)
started_by true bytes rest is some = cc
started_by false bytes rest is some =
    (grind (arith, nat_tests, is), given (record { taken = 0; left = bytes }) rest some)

started_shown : (told : Option (List ℕ)) (rest : Rest) → in_start (started told) ≡ Ok rest
    → (bytes : List ℕ) × (told ≡ Some bytes) × (length bytes ≤ 2 ^ 30)
    × (record { taken = 0; left = bytes } ≡ rest)
started_shown None rest some = cc
started_shown (Some bytes) rest some = let is =
    started_by (nat_lt (2 ^ 30) (length bytes)) bytes rest refl some in (bytes, refl, is.0, is.1)

pub started_found : (bytes : List ℕ) → length bytes ≤ 2 ^ 30
    → in_start (started (Some bytes)) ≡ Ok (record { taken = 0; left = bytes })
started_found bytes short = let no : nat_lt (2 ^ 30) (length bytes) ≡ false =
    grind (arith, nat_tests, short) in rw no refl

pub reported : (files : Files) (name : List ℕ) (report : Report) → report_on files name ≡ Ok report
    → IsReportOn files name report
unfolding report_on
reported files name report some =
    let start = then_ok (in_start (started (get files name))) report_at report some in
    let held = started_shown (get files name) start.0 start.1 in
    let rest : Rest = record { taken = 0; left = held.0 } in
    let is = board_shown rest report (ap report_at held.3 ∙ start.2) in
    let board : Board = board_with is.front.head is.front.seals is.lanes in
    let whole = (board_is_whole auction_shape).shown rest board is.over is.board_is in
    let front = front_right is.front.head is.front.seals is.front.position whole.0.head
    whole.0.seals is.front_is.price is.front_is.winner in
    record {
      file = held.0;
      held = held.1;
      short = held.2;
      holds = record {
        board = board;
        text = whole.1;
        is_board = whole.0;
        price = front.price;
        winner = winner_is is.front.seals is.front.head.winner is.front.position front.winner;
        report_is = is.report_is;
      };
    }

pub is_reported : (files : Files) (name : List ℕ) (report : Report) → IsReportOn files name report
    → report_on files name ≡ Ok report
unfolding report_on
is_reported files name report is =
    let publishes = is.holds in
    let board : Board = publishes.board in
    let rest : Rest = record { taken = 0; left = is.file } in
    let read = (board_is_whole auction_shape).found rest board publishes.is_board publishes.text in
    let winner = winner_placed board.seals board.head.winner publishes.winner in
    ap (λ told. in_start (started told) >>= report_at) is.held
    ∙ ap (λ begins. begins >>= report_at) (started_found is.file is.short)
    ∙ board_reported rest read.0 board winner.0 read.1 (price_found board.head publishes.price)
    winner.1
    ∙ ap (λ made. Ok made) (sym publishes.report_is)
