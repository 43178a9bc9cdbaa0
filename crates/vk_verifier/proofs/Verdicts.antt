-- Reading a board before its first lane is exact, and so is the verdict on it.
use Rattle.std.proofs.Common.{◌≡◌, ℕ, ◌+◌, List, length, Result, Ok, Err, refl, ap, sym, ◌∙◌, subst}
use Rattle.std.specs.Prelude.{◌↔◌}
use Rattle.std.specs.Result.{result_err}
use Rattle.vk_residue.specs.Steps.{◌>>=◌}
use Rattle.vk_lines.specs.Lines.{Rest, end_at}
use Rattle.vk_lines.specs.Forms.{many_at}
use Rattle.vk_board.specs.declared.board.Head.{Head}
use Rattle.vk_board.specs.declared.board.SealLines.{SealLines}
use Rattle.vk_board.specs.declared.board.LaneLines.{LaneLines}
use Rattle.vk_board.specs.declared.front.Front.{Front}
use Rattle.vk_board.specs.Values.{Board}
use Rattle.vk_board.specs.Reading.{seals_at, lane_at, lanes_at, board_at}
use Rattle.vk_board.specs.Fronts.{IsFront, FrontFault, front_at, front_text}
use Rattle.vk_board.specs.Fronts as fronts
use Rattle.vk_board.proofs.Boards.{board_with}
use Rattle.vk_board.proofs.Faults.{board_fault}
use Rattle.vk_board.proofs.Fronts.{FrontRead, front_at_shown}
use Rattle.vk_board.proofs.FrontLaws.{fronts_read, fronts_refused}
use Rattle.vk_judge.specs.declared.answers.Part.TheVariants as part
use Rattle.vk_judge.specs.declared.answers.Fault.{Fault}
use Rattle.vk_judge.specs.declared.answers.Fault.TheVariants as behind
use Rattle.vk_judge.specs.declared.opened.Opened.{Opened}
use Rattle.vk_judge.specs.declared.opened.Refusal.{Refusal}
use Rattle.vk_judge.specs.declared.opened.Refusal.TheVariants as refusal
use Rattle.vk_judge.specs.Begun.{from_start}
use Rattle.vk_judge.specs.FileForms.{IsForm, JudgedHolds, OpenedFront, ReadFront}
use Rattle.vk_judge.specs.Opened.{judged_in}
use Rattle.vk_judge.specs.Refusals.{BeginsWith, lanes_and_end_at}
use Rattle.vk_judge.proofs.Exact.{stop_is}
use Rattle.vk_judge.proofs.FileForms.{judged_exact, judged_holds}
use Rattle.vk_judge.proofs.Steps.{value_same}
use Rattle.vk_verifier.specs.declared.answers.BoardRefusal.{BoardRefusal}
use Rattle.vk_verifier.specs.declared.answers.BoardRefusal.TheVariants as refuses
use Rattle.vk_verifier.specs.declared.answers.BoardVerdict.{BoardVerdict}
use Rattle.vk_verifier.specs.declared.answers.BoardVerdict.TheVariants.{Accepted, Malformed, Price, Winner, Lanes, Wire, Row}
use Rattle.vk_verifier.specs.declared.boards.PlacedHead.{PlacedHead}
use Rattle.vk_verifier.specs.Verdicts.{board_front_at, board_front, front_refusal, in_front, judged_of, opened_board, statement_of, verdict_by, verdict_of}
use Rattle.vk_verifier.specs.Acceptance.{AcceptedExactly, shape_of}
use Rattle.vk_verifier.specs.Refusals.{BoardRefuses, BoardStops, IsBoardLine, VerdictHolds, VerdictsAreExact, board_form}
use Rattle.vk_verifier.proofs.Plans.{statement_right, wires_are, rows_are}

-- ---- the fault line of a board that has a front

abbrev lanes_then : Head → List SealLines → List LaneLines × Rest → Result (Board × Rest) ℕ
lanes_then head seals lanes = end_at lanes.1 >>= λ over. Ok (board_with head seals lanes.0, over.1)

abbrev seals_then : Head → List SealLines × Rest → Result (Board × Rest) ℕ
seals_then head seals = lanes_at shape_of head seals.1 >>= lanes_then head seals.0

abbrev head_then : Head × Rest → Result (Board × Rest) ℕ
head_then head = seals_at head.0 head.1 >>= seals_then head.0

board_behind : (rest : Rest) (front : Front) (after : Rest) → FrontRead rest front after
    → board_at shape_of rest ≡ (lanes_at shape_of front.head after >>= lanes_then front.head
    front.seals)
unfolding board_at
board_behind rest front after read = ap (λ r. r >>= head_then) read.head_read
    ∙ ap (λ r. r >>= seals_then front.head) read.seals_read

-- the fault is the same whatever is made of the lanes
abbrev lines_then : List LaneLines × Rest → Result (List LaneLines × Rest) ℕ
lines_then lanes = end_at lanes.1 >>= λ over. Ok (lanes.0, over.1)

end_same : {A B : Type 0} (r : Result (Unit {0} × Rest) ℕ) (f : Unit {0} × Rest → A)
    (g : Unit {0} × Rest → B)
    → result_err (r >>= λ over. Ok (f over)) ≡ result_err (r >>= λ over. Ok (g over))
end_same (Ok over) f g = refl
end_same (Err line) f g = refl

lanes_same : (head : Head) (seals : List SealLines) (r : Result (List LaneLines × Rest) ℕ)
    → result_err (r >>= lanes_then head seals) ≡ result_err (r >>= lines_then)
lanes_same head seals (Ok lanes) =
    end_same (end_at lanes.1) (λ over. (board_with head seals lanes.0, over.1))
    (λ over. (lanes.0, over.1))
lanes_same head seals (Err line) = refl

shape_same : (front : Front) (rest : Rest) → IsFront front
    → (lanes_at shape_of front.head rest >>= lines_then)
    ≡ lanes_and_end_at (statement_of front) rest
shape_same front rest is =
    let plan = (statement_of front).plan in
    let whole : ℕ → ℕ → Result (List LaneLines × Rest) ℕ = λ wires rows.
    many_at front.head.lanes (λ before. lane_at (length before + 1) wires rows) rest >>= lines_then
    in
    sym (ap (λ wires. whole wires (length plan.rows)) (wires_are front is)
    ∙ ap (λ rows. whole (shape_of front.head).wires rows) (rows_are front is))

module _ (board : List ℕ) where
  line_same : (front : Front) (after : Rest) → IsFront front
      → front_at (from_start board) ≡ Ok (front, after)
      → result_err (board_at shape_of (from_start board))
      ≡ result_err (lanes_and_end_at (statement_of front) after)
  line_same front after is read =
      ap result_err (board_behind (from_start board) front after
      (front_at_shown (from_start board) front after read))
      ∙ (lanes_same front.head front.seals (lanes_at shape_of front.head after)
      ∙ ap result_err (shape_same front after is))

  told : (front : Front) (after : Rest) → IsFront front
      → front_at (from_start board) ≡ Ok (front, after) → (line : ℕ)
      → lanes_and_end_at (statement_of front) after ≡ Err line → IsBoardLine board line
  told front after is read line stop = board_fault shape_of board
      ∙ (line_same front after is read ∙ ap result_err stop)

  tells : (front : Front) (after : Rest) → IsFront front
      → front_at (from_start board) ≡ Ok (front, after) → (line : ℕ)
      → IsBoardLine board line → lanes_and_end_at (statement_of front) after ≡ Err line
  tells front after is read line fault =
      stop_is (lanes_and_end_at (statement_of front) after) line
      (sym (line_same front after is read) ∙ sym (board_fault shape_of board) ∙ fault)

-- ---- the front

abbrev opened_past : Result (Front × Rest) FrontFault
    → Result (Opened PlacedHead × Rest) (Refusal BoardRefusal)
opened_past read = in_front read >>= λ front. Ok (opened_board front.0, front.1)

-- the fault of a front that is refused
abbrev fault_by : Refusal BoardRefusal → FrontFault
fault_by (refusal.Front refuses.Price) = fronts.Price
fault_by (refusal.Front refuses.Winner) = fronts.Winner
fault_by (refusal.Fault (behind.Malformed file line)) = fronts.Malformed line
fault_by (refusal.Fault behind.Lanes) = fronts.Price
fault_by (refusal.Fault (behind.Wire lane wire why)) = fronts.Price
fault_by (refusal.Fault (behind.Row lane row)) = fronts.Price

fault_back : (fault : FrontFault) → fault_by (front_refusal fault) ≡ fault
fault_back (fronts.Malformed line) = refl
fault_back fronts.Price = refl
fault_back fronts.Winner = refl

refusal_same : (one other : Refusal BoardRefusal)
    → ◌≡◌ {A = Result (Opened PlacedHead × Rest) (Refusal BoardRefusal)} (Err one) (Err other)
    → one ≡ other
refusal_same one other same = cc

refused_by : (read : Result (Front × Rest) FrontFault) (fault : FrontFault)
    → opened_past read ≡ Err (front_refusal fault) → read ≡ Err fault
refused_by (Ok front) fault stop = cc
refused_by (Err other) fault stop =
    ap (λ f. Err f) (sym (fault_back other)
    ∙ ap fault_by (refusal_same (front_refusal other) (front_refusal fault) stop)
    ∙ fault_back fault)

only_lines : (read : Result (Front × Rest) FrontFault) (fault : Fault)
    → opened_past read ≡ Err (refusal.Fault fault)
    → (line : ℕ) × (fault ≡ behind.Malformed part.Board line)
only_lines (Ok front) fault stop = cc
only_lines (Err (fronts.Malformed line)) fault stop =
    (line, let same : fault ≡ behind.Malformed part.Board line = cc in same)
only_lines (Err fronts.Price) fault stop = cc
only_lines (Err fronts.Winner) fault stop = cc

module _ (board : List ℕ) where
  abbrev read : Result (Front × Rest) FrontFault
  read = front_at (from_start board)

  stop_of : (fault : FrontFault) → board_front_at (from_start board) ≡ Err (front_refusal fault)
      → read ≡ Err fault
  unfolding board_front_at
  stop_of fault stop = refused_by read fault stop

  stop_by : (fault : FrontFault) → read ≡ Err fault
      → board_front_at (from_start board) ≡ Err (front_refusal fault)
  unfolding board_front_at
  stop_by fault stop = ap opened_past stop

  opened_by : (front : Front) (after : Rest) → read ≡ Ok (front, after)
      → board_front_at (from_start board) ≡ Ok (opened_board front, after)
  unfolding board_front_at
  opened_by front after is = ap opened_past is

  shown_by : (r : Result (Front × Rest) FrontFault) → read ≡ r → (opened : Opened PlacedHead)
      (after : Rest) → opened_past r ≡ Ok (opened, after) → OpenedFront board_form board
  shown_by (Err fault) is opened after ok = cc
  shown_by (Ok front) is opened after ok =
      let text = fronts_read.shown (from_start board) front.0 front.1 is in
      record {
        front = front.0;
        right = text.0;
        is = record { after = front.1; text = text.1; read = opened_by front.0 front.1 is };
      }

  shown : (opened : Opened PlacedHead) (after : Rest)
      → board_front_at (from_start board) ≡ Ok (opened, after) → OpenedFront board_form board
  unfolding board_front_at
  shown opened after ok = shown_by read refl opened after ok

  found : (front : Front) → IsFront front → BeginsWith board (front_text front)
      → ReadFront board_form board front
  found front right begins =
      let is = fronts_read.found (from_start board) front begins.0 right begins.1 in
      let after : Rest = record { taken = is.0; left = begins.0 } in
      record { after = after; text = begins.1; read = opened_by front after is.1 }

  refused : (reason : BoardRefusal)
      → (board_front_at (from_start board) ≡ Err (refusal.Front reason)) ↔ BoardRefuses reason board
  refused refuses.Price = (
    λ stop. (fronts_refused.price (from_start board)).0 (stop_of fronts.Price stop),
    λ fails. stop_by fronts.Price ((fronts_refused.price (from_start board)).1 fails),
  )
  refused refuses.Winner = (
    λ stop. (fronts_refused.winner (from_start board)).0 (stop_of fronts.Winner stop),
    λ fails. stop_by fronts.Winner ((fronts_refused.winner (from_start board)).1 fails),
  )

  stops : (line : ℕ)
      → (board_front_at (from_start board)
      ≡ Err (refusal.Fault (behind.Malformed part.Board line)))
      ↔ BoardStops board line
  stops line = (
    λ stop. let fails = (fronts_refused.line shape_of board line).0
        (stop_of (fronts.Malformed line) stop) in (fails.line, fails.before),
    λ says. stop_by (fronts.Malformed line)
        ((fronts_refused.line shape_of board line).1
        (record { line = says.0; before = says.1 })),
  )

  only : (fault : Fault) → board_front_at (from_start board) ≡ Err (refusal.Fault fault)
      → (line : ℕ) × (fault ≡ behind.Malformed part.Board line)
  unfolding board_front_at
  only fault stop = only_lines read fault stop

  -- the front of a board that was read
  front_is : (front : Front) (is : ReadFront board_form board front)
      → read ≡ Ok (front, is.after)
  unfolding board_front_at
  front_is front is = by_read read refl is.read
    where
      by_read : (r : Result (Front × Rest) FrontFault) → read ≡ r
          → board_front_at (from_start board) ≡ Ok (opened_board front, is.after)
          → read ≡ Ok (front, is.after)
      by_read (Ok other) same ok =
          let both : ◌≡◌ {A = Opened PlacedHead × Rest} (opened_board other.0, other.1)
          (opened_board front, is.after) =
          value_same _ _ (sym (ap opened_past same) ∙ ok) in
          same ∙ ap (λ (b : Opened PlacedHead × Rest). Ok (board_front b.0, b.1)) both
      by_read (Err fault) same ok = absurd (let none = sym (ap opened_past same) ∙ ok in cc)

pub is_form : IsForm board_form
is_form = record {
  statement = statement_right;
  one = λ front other same. ap board_front same;
  shown = shown;
  found = found;
  refused = refused;
  stops = stops;
  only = only;
  line = λ board front right is line. (
    told board front is.after right (front_is board front is) line,
    tells board front is.after right (front_is board front is) line,
  );
}

-- ---- the verdict

pub judged_back : (judged : Result (Unit {0}) (Refusal BoardRefusal))
    → judged_of (verdict_by judged) ≡ judged
judged_back (Ok done) = refl
judged_back (Err (refusal.Front refuses.Price)) = refl
judged_back (Err (refusal.Front refuses.Winner)) = refl
judged_back (Err (refusal.Fault (behind.Malformed file line))) = refl
judged_back (Err (refusal.Fault behind.Lanes)) = refl
judged_back (Err (refusal.Fault (behind.Wire lane wire why))) = refl
judged_back (Err (refusal.Fault (behind.Row lane row))) = refl

pub verdict_back : (verdict : BoardVerdict) → verdict_by (judged_of verdict) ≡ verdict
verdict_back Accepted = refl
verdict_back (Malformed file line) = refl
verdict_back Price = refl
verdict_back Winner = refl
verdict_back Lanes = refl
verdict_back (Wire lane wire why) = refl
verdict_back (Row lane row) = refl

pub verdict_holds : (board challenge reply : List ℕ)
    → VerdictHolds (verdict_of board challenge reply) board challenge reply
verdict_holds board challenge reply =
    subst (λ judged. JudgedHolds board_form judged board challenge reply)
    (sym (judged_back (judged_in board_front_at board challenge reply)))
    (judged_holds board_form is_form board challenge reply)

pub verdicts_exact : VerdictsAreExact
verdicts_exact verdict board challenge reply = (
  λ is. let S : BoardVerdict → Type 0 = λ v. VerdictHolds v board challenge reply in subst S is
      (verdict_holds board challenge reply),
  λ holds. ap verdict_by
      ((judged_exact board_form is_form board challenge reply (judged_of verdict)).1 holds)
      ∙ verdict_back verdict,
)

pub accepted_exactly : AcceptedExactly
accepted_exactly board challenge reply = verdicts_exact Accepted board challenge reply
