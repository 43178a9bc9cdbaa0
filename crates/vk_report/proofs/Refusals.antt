-- A file is refused exactly for what holds of it.
use Rattle.std.proofs.Common.{◌≡◌, ℕ, ◌^◌, nat_lt, Bool, true, false, if◌then◌else◌, List, length, Option, Some, None, Result, Ok, Err, inl, inr, refl, ap, sym, ◌∙◌, arith, subst}
use Rattle.std.specs.FinMap.{get}
use Rattle.std.specs.Result.{result_err}
use Rattle.std.proofs.lemmas.Bool.Decides.{nat_tests}
use Rattle.vk_residue.specs.Steps.{◌>>=◌}
use Rattle.vk_io.specs.Files.{Files}
use Rattle.vk_lines.specs.Lines.{Rest, end_at, started}
use Rattle.vk_lines.specs.declared.errors.StartErr.TheVariants as start
use Rattle.vk_board.specs.declared.board.LaneLines.{LaneLines}
use Rattle.vk_board.specs.declared.front.Front.{Front}
use Rattle.vk_board.specs.Values.{Board}
use Rattle.vk_board.specs.Reading.{lanes_at, board_at}
use Rattle.vk_board.specs.Fronts.{FrontFault, front_at}
use Rattle.vk_board.specs.Fronts as fronts
use Rattle.vk_board.proofs.Boards.{board_with}
use Rattle.vk_board.proofs.Faults.{board_fault}
use Rattle.vk_board.proofs.Fronts.{front_at_shown}
use Rattle.vk_board.proofs.FrontLaws.{fronts_read, fronts_refused}
use Rattle.vk_report.specs.declared.report.Report.{Report}
use Rattle.vk_report.specs.declared.report.ReportErr.{ReportErr}
use Rattle.vk_report.specs.declared.report.ReportErr.TheVariants.{Missing, TooLong, Malformed, Price, Winner, Failed, NoMemory}
use Rattle.vk_report.specs.Reports.{in_board, in_front, in_start, passed, lanes_passed, report_with, report_at, report_on}
use Rattle.vk_report.specs.Meaning.{auction_shape, FailsIn, HasSomeFront, IsUnreported, RefusedExactly, ReportFails, UnreportedExactly}
use Rattle.vk_report.proofs.Meaning.{started_found}

abbrev from_start : List ℕ → Rest
from_start file = record { taken = 0; left = file }

refusal_same : (e f : ReportErr) → ◌≡◌ {A = Result Report ReportErr} (Err e) (Err f) → e ≡ f
refusal_same e f same = cc

-- ---- after a front that may stand

-- the report of the board that is read, or its fault line
abbrev report_or_line : Front → Result (Board × Rest) ℕ → Result Report ReportErr
report_or_line front (Ok board) = Ok (report_with front)
report_or_line front (Err line) = Err (Malformed line)

by_end : (front : Front) (lanes : List LaneLines) (over : Result (Unit {0} × Rest) ℕ)
    → (in_board over >>= λ over. Ok (report_with front))
    ≡ report_or_line front (◌>>=◌ over
    (λ over. Ok (board_with front.head front.seals lanes, over.1)))
by_end front lanes (Ok over) = refl
by_end front lanes (Err line) = refl

by_lanes : (front : Front) (lanes : Result (List LaneLines × Rest) ℕ)
    → (in_board (passed lanes) >>= λ passed. in_board (end_at passed.1) >>= λ over.
    Ok (report_with front))
    ≡ report_or_line front (◌>>=◌ lanes
    (λ lanes. ◌>>=◌ (end_at lanes.1)
    (λ over. Ok (board_with front.head front.seals lanes.0, over.1))))
by_lanes front (Ok lanes) = by_end front lanes.0 (end_at lanes.1)
by_lanes front (Err line) = refl

of_board : (rest : Rest) (front : Front) (after : Rest) → front_at rest ≡ Ok (front, after)
    → report_at rest ≡ report_or_line front (board_at auction_shape rest)
unfolding report_at board_at
of_board rest front after read =
    let is = front_at_shown rest front after read in
    rw (read, is.head_read, is.seals_read)
    (by_lanes front (lanes_at auction_shape front.head after))

-- ---- each refusal holds

abbrev after_front : Front × Rest → Result Report ReportErr
after_front front = in_board (lanes_passed (report_with front.0) front.1) >>= λ lanes.
    in_board (end_at lanes.1) >>= λ over. Ok (report_with front.0)

of_front : (rest : Rest) (read : Result (Front × Rest) FrontFault) → front_at rest ≡ read
    → report_at rest ≡ (in_front read >>= after_front)
unfolding report_at
of_front rest read is = ap (λ r. in_front r >>= after_front) is

module _ (file : List ℕ) (refusal : ReportErr) where
  -- this refusal is the one
  is_it : (holds : ReportErr) → ReportFails holds file
      → ◌≡◌ {A = Result Report ReportErr} (Err holds) (Err refusal) → ReportFails refusal file
  is_it holds fails same = subst (λ e. ReportFails e file) (refusal_same holds refusal same) fails

  by_board : (front : Front) (after : Rest) (read : Result (Board × Rest) ℕ)
      → front_at (from_start file) ≡ Ok (front, after)
      → board_at auction_shape (from_start file) ≡ read
      → report_or_line front read ≡ Err refusal → ReportFails refusal file
  by_board front after (Ok board) front_read is stop = cc
  by_board front after (Err line) front_read is stop =
      let shown = fronts_read.shown (from_start file) front after front_read in
      let has : HasSomeFront file =
      record { front = front; right = shown.0; more = after.left; text = shown.1 } in
      is_it (Malformed line) (record {
        fault = board_fault auction_shape file ∙ ap result_err is;
        place = inr has;
      }) stop

  by_front : (read : Result (Front × Rest) FrontFault) → front_at (from_start file) ≡ read
      → (in_front read >>= after_front) ≡ Err refusal
      → ReportFails refusal file
  by_front (Ok front) is stop =
      by_board front.0 front.1 (board_at auction_shape (from_start file)) is refl
      (sym (of_board (from_start file) front.0 front.1 is) ∙ (of_front
      (from_start file) (Ok front) is ∙ stop))
  by_front (Err (fronts.Malformed line)) is stop =
      let fails = (fronts_refused.line auction_shape file line).0 is in
      is_it (Malformed line) (record { fault = fails.line; place = inl fails.before }) stop
  by_front (Err fronts.Price) is stop =
      is_it Price ((fronts_refused.price (from_start file)).0 is) stop
  by_front (Err fronts.Winner) is stop =
      is_it Winner ((fronts_refused.winner (from_start file)).0 is) stop

  refused_holds : report_at (from_start file) ≡ Err refusal → ReportFails refusal file
  refused_holds stop = by_front (front_at (from_start file)) refl
      (sym (of_front (from_start file) (front_at (from_start file)) refl) ∙ stop)

-- ---- what holds is refused

err_is : {A : Type 0} (read : Result A ℕ) (line : ℕ) → result_err read ≡ Some line → read ≡ Err line
err_is (Ok x) line is = cc
err_is (Err other) line is = cc

malformed_after : (file : List ℕ) (line : ℕ)
    → result_err (board_at auction_shape (from_start file)) ≡ Some line → HasSomeFront file
    → report_at (from_start file) ≡ Err (Malformed line)
malformed_after file line fault has =
    let read = fronts_read.found (from_start file) has.front has.more has.right has.text in
    of_board (from_start file) has.front (record { taken = read.0; left = has.more }) read.1
    ∙ ap (report_or_line has.front) (err_is (board_at auction_shape (from_start file)) line fault)

holds_refused : (refusal : ReportErr) (file : List ℕ) → ReportFails refusal file
    → report_at (from_start file) ≡ Err refusal
holds_refused (Malformed line) file fails = elim fails.place [
  | inl none ↦ of_front (from_start file) (Err (fronts.Malformed line))
      ((fronts_refused.line auction_shape file line).1
      (record { line = fails.fault; before = none }))
  | inr has ↦ malformed_after file line (sym (board_fault auction_shape file) ∙ fails.fault) has
]
holds_refused Price file fails =
    of_front (from_start file) (Err fronts.Price) ((fronts_refused.price (from_start file)).1 fails)
holds_refused Winner file fails =
    of_front (from_start file) (Err fronts.Winner)
    ((fronts_refused.winner (from_start file)).1 fails)
holds_refused Missing file fails = absurd fails
holds_refused TooLong file fails = absurd fails
holds_refused Failed file fails = absurd fails
holds_refused NoMemory file fails = absurd fails

pub refused_exactly : RefusedExactly
refused_exactly refusal file = (refused_holds file refusal, holds_refused refusal file)

-- ---- files

abbrev from_told : Option (List ℕ) → Result Report ReportErr
from_told told = in_start (started told) >>= report_at

abbrev by_length : List ℕ → Bool → Result Report ReportErr
by_length file long = in_start (if long then Err start.TooLong else Ok (from_start file)) >>=
    report_at

module _ (files : Files) (name : List ℕ) where
  of_bytes : (refusal : ReportErr) → FailsIn files name refusal → IsUnreported files name refusal
  of_bytes Missing fails = absurd fails.holds
  of_bytes TooLong fails = absurd fails.holds
  of_bytes (Malformed line) fails = fails
  of_bytes Price fails = fails
  of_bytes Winner fails = fails
  of_bytes Failed fails = fails
  of_bytes NoMemory fails = fails

  when_held : (file : List ℕ) (long : Bool) (refusal : ReportErr) → get files name ≡ Some file
      → nat_lt (2 ^ 30) (length file) ≡ long
      → by_length file long ≡ Err refusal
      → IsUnreported files name refusal
  when_held file true refusal is test stop =
      subst (IsUnreported files name) (refusal_same TooLong refusal stop)
      (file, is, grind (arith, nat_tests, test))
  when_held file false refusal is test stop =
      of_bytes refusal (record {
        file = file;
        held = is;
        short = grind (arith, nat_tests, test);
        holds = refused_holds file refusal stop;
      })

  when_told : (told : Option (List ℕ)) (refusal : ReportErr) → get files name ≡ told
      → from_told told ≡ Err refusal → IsUnreported files name refusal
  when_told None refusal is stop =
      subst (IsUnreported files name) (refusal_same Missing refusal stop) is
  when_told (Some file) refusal is stop =
      when_held file (nat_lt (2 ^ 30) (length file)) refusal is refl stop

  bytes_refused : (refusal : ReportErr) → FailsIn files name refusal
      → from_told (get files name) ≡ Err refusal
  bytes_refused refusal fails =
      ap from_told fails.held ∙ (ap (λ begins. begins >>= report_at)
      (started_found fails.file fails.short) ∙ holds_refused refusal fails.file fails.holds)

  is_refused : (refusal : ReportErr) → IsUnreported files name refusal
      → from_told (get files name) ≡ Err refusal
  is_refused Missing is = ap from_told is
  is_refused TooLong (file, is, long) =
      let test : nat_lt (2 ^ 30) (length file) ≡ true = grind (arith, nat_tests, long) in
      ap from_told is ∙ ap (by_length file) test
  is_refused (Malformed line) is = bytes_refused (Malformed line) is
  is_refused Price is = bytes_refused Price is
  is_refused Winner is = bytes_refused Winner is
  is_refused Failed is = bytes_refused Failed is
  is_refused NoMemory is = bytes_refused NoMemory is

pub unreported_exactly : UnreportedExactly
unfolding report_on
unreported_exactly files name refusal =
    (when_told files name (get files name) refusal refl, is_refused files name refusal)
