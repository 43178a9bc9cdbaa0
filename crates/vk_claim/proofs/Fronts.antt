-- The front of a claim file is exact: it stops at the fault line, its public part isn't admitted,
-- or its claim is known.
use Rattle.std.proofs.Common.{◌≡◌, ℕ, ◌+◌, List, ◌++◌, length, Option, Some, None, IfSome, Result, Ok, Err, refl, ap, sym, subst, ◌∙◌}
use Rattle.std.specs.Prelude.{◌↔◌}
use Rattle.std.proofs.lemmas.Option.{same_Some}
use Rattle.vk_residue.specs.Steps.{◌>>=◌}
use Rattle.vk_lines.specs.Lines.{Rest, end_at}
use Rattle.vk_lines.specs.Forms.{FindsFaults, fault_at, many_at}
use Rattle.vk_lines.proofs.Faults.{end_ends, ends_done, ends_then}
use Rattle.vk_plan.specs.Plans.{IsPlan, PlanValue}
use Rattle.vk_board.specs.declared.board.LaneLines.{LaneLines}
use Rattle.vk_board.specs.Reading.{lane_at}
use Rattle.vk_board.specs.Tables.{Last, Over}
use Rattle.vk_board.proofs.Faults.{lanes_follow}
use Rattle.vk_judge.specs.declared.answers.Fault.{Fault}
use Rattle.vk_judge.specs.declared.answers.Fault.TheVariants.{Malformed}
use Rattle.vk_judge.specs.declared.answers.Part.TheVariants as part
use Rattle.vk_judge.specs.declared.opened.Opened.{Opened}
use Rattle.vk_judge.specs.declared.opened.Refusal.{Refusal}
use Rattle.vk_judge.specs.declared.opened.Refusal.TheVariants as refusal
use Rattle.vk_judge.specs.Behind.{in_part}
use Rattle.vk_judge.specs.Begun.{from_start}
use Rattle.vk_judge.specs.FileForms.{IsForm, OpenedFront, ReadFront}
use Rattle.vk_judge.specs.Refusals.{BeginsWith, lanes_and_end_at}
use Rattle.vk_judge.specs.Statement.{IsStatement}
use Rattle.vk_judge.proofs.Steps.{value_same}
use Rattle.vk_claim.specs.declared.claim.ClaimRefusal.{ClaimRefusal}
use Rattle.vk_claim.specs.declared.claim.ClaimRefusal.TheVariants.{Public}
use Rattle.vk_claim.specs.declared.front.ClaimFront.{ClaimFront}
use Rattle.vk_claim.specs.declared.front.ClaimHead.{ClaimHead}
use Rattle.vk_words.specs.declared.claim.Kind.{Kind}
use Rattle.vk_claim.specs.Values.{Plans, claim_frame, plan_for, shape_for, shape_with}
use Rattle.vk_claim.specs.Texts.{claim_front_text}
use Rattle.vk_claim.specs.Reading.{claim_front_at}
use Rattle.vk_claim.specs.Tables.{claim_head_table, claim_table}
use Rattle.vk_claim.specs.Claims.{IsAdmitted, PlannedFront, claim_at, claim_of, claim_past, claim_with, front_in, planned, statement_of}
use Rattle.vk_claim.specs.Acceptance.{ClaimRefuses, FrontStops, HasClaimFront, IsClaimLine, PublicFails, claim_form}
use Rattle.vk_claim.proofs.Forms.{claim_front_part}
use Rattle.vk_claim.proofs.Faults.{front_follows, lanes_place}

-- a plan keeps what every plan keeps, and has as many inputs as its part says
abbrev pub AreRight : Plans → Type 0
AreRight plans =
    (kind : Kind) (inputs : ℕ) (numbers : List ℕ)
    → IfSome (plans kind inputs numbers) (λ plan. IsPlan plan × (plan.inputs ≡ inputs))

pub statement_right : (plans : Plans) → AreRight plans → (shown : PlannedFront)
    → IsAdmitted plans shown → IsStatement (statement_of shown)
statement_right plans right shown is =
    let head = shown.front.head in
    let P : Option PlanValue → Type 0 =
    λ plan. IfSome plan (λ plan. IsPlan plan × (plan.inputs ≡ head.inputs)) in
    let kept = subst P is.admitted (right head.kind head.inputs head.numbers) in
    record {
      id = is.front.head.id;
      count = is.front.head.lanes;
      seals = is.front.seals.each;
      inputs = kept.1 ∙ sym is.front.seals.count;
      plan = kept.0;
    }

module _ (plans : Plans) (file : List ℕ) where
  abbrev front_read : Result (ClaimFront × Rest) ℕ
  front_read = claim_front_at (from_start file)

  abbrev read : Result (Opened ClaimHead × Rest) (Refusal ClaimRefusal)
  read = claim_at plans (from_start file)

  -- ---- texts

  -- what is read of a file that begins with a front
  front_found : (front : ClaimFront) → HasClaimFront file front
      → (after : Rest) × (front_read ≡ Ok (front, after))
      × (file ≡ claim_front_text front ++ after.left)
  front_found front has =
      let found = claim_front_part.found (from_start file) front has.begins.0 has.right has.begins.1
      in
      (record { taken = found.0; left = has.begins.0 }, found.1, has.begins.1)

  front_shown : (front : ClaimFront) (after : Rest) → front_read ≡ Ok (front, after)
      → HasClaimFront file front
  front_shown front after is =
      let shown = claim_front_part.shown (from_start file) front after is in
      record { right = shown.0; begins = (after.left, shown.1) }

  -- ---- how far it is read

  data Way : Type 0 where
    Stops : (line : ℕ) → front_read ≡ Err line → Way
    Refuses : (front : ClaimFront) (after : Rest) → front_read ≡ Ok (front, after)
        → plan_for plans front.head ≡ None → Way
    Goes : (shown : PlannedFront) (after : Rest) → IsAdmitted plans shown
        → front_read ≡ Ok (shown.front, after) → Way

  by_plan : (front : ClaimFront) (after : Rest) → front_read ≡ Ok (front, after)
      → (plan : Option PlanValue) → plan_for plans front.head ≡ plan → Way
  by_plan front after is None none = Refuses front after is none
  by_plan front after is (Some plan) admitted =
      Goes (planned front plan) after
      (record { front = (front_shown front after is).right; admitted = admitted }) is

  by_front : (front : Result (ClaimFront × Rest) ℕ) → front_read ≡ front → Way
  by_front (Ok front) is = by_plan front.0 front.1 is (plan_for plans front.0.head) refl
  by_front (Err line) is = Stops line is

  way : Way
  way = by_front front_read refl

  -- what is come to in each
  abbrev past : Result (ClaimFront × Rest) ℕ
      → Result (Opened ClaimHead × Rest) (Refusal ClaimRefusal)
  past front = claim_past plans (in_part part.Board front)

  claim_stops : (line : ℕ) → front_read ≡ Err line
      → read ≡ Err (refusal.Fault (Malformed part.Board line))
  unfolding claim_at
  claim_stops line stop = ap past stop

  claim_refused : (front : ClaimFront) (after : Rest) → front_read ≡ Ok (front, after)
      → plan_for plans front.head ≡ None → read ≡ Err (refusal.Front Public)
  unfolding claim_at
  claim_refused front after is none =
      ap past is ∙ ap (λ plan. claim_with front plan >>= λ claim. Ok (claim, after)) none

  claim_found : (shown : PlannedFront) (after : Rest) → IsAdmitted plans shown
      → front_read ≡ Ok (shown.front, after) → read ≡ Ok (claim_of shown, after)
  unfolding claim_at
  claim_found shown after right is =
      ap past is ∙ ap (λ plan. claim_with shown.front plan >>= λ claim. Ok (claim, after))
      right.admitted

  -- ---- the fault line

  stops_there : (line : ℕ) → front_read ≡ Err line → IsClaimLine plans file line
  stops_there line stop = (front_follows (shape_for plans)).err (from_start file) line stop

  module _ (shown : PlannedFront) (right : IsAdmitted plans shown) where
    abbrev lines_then : List LaneLines × Rest → Result (List LaneLines × Rest) ℕ
    lines_then lanes = end_at lanes.1 >>= λ over. Ok (lanes.0, over.1)

    -- reading on from the first lane finds the fault that the table gives
    lanes_end : FindsFaults (claim_table (shape_for plans))
        (lanes_place (shape_for plans) shown.front) (lanes_and_end_at (statement_of shown))
    lanes_end =
        let table = claim_table (shape_for plans) in
        let place = lanes_place (shape_for plans) shown.front in
        let frame = claim_frame (shape_for plans) shown.front.head in
        let E : Option PlanValue → Type 0 = λ plan. FindsFaults table place
        (λ rest. many_at shown.front.head.lanes
        (λ before. lane_at (length before + 1) (shape_with plan).wires (shape_with plan).rows)
        rest >>= lines_then) in
        subst E right.admitted (
        ends_then table place (lanes_follow (claim_head_table (shape_for plans)) frame) (λ lanes.
        ends_done table Last lanes
        (end_ends table Last Over (λ text. refl) refl (λ text. refl) refl)))

    module _ (after : Rest) (is : front_read ≡ Ok (shown.front, after)) where
      line_on : (found : Option ℕ)
          → fault_at (claim_table (shape_for plans)) (lanes_place (shape_for plans) shown.front)
          after ≡ found
          → fault_at (claim_table (shape_for plans)) (claim_table (shape_for plans)).first
          (from_start file) ≡ found
      line_on found told = (front_follows (shape_for plans)).ok (from_start file) shown.front after
          is ∙ told

      line_told : (line : ℕ) → lanes_and_end_at (statement_of shown) after ≡ Err line
          → IsClaimLine plans file line
      line_told line stop = line_on (Some line) (lanes_end.err after line stop)

      by_lanes : (line : ℕ) (lanes : Result (List LaneLines × Rest) ℕ)
          → lanes_and_end_at (statement_of shown) after ≡ lanes → IsClaimLine plans file line
          → lanes_and_end_at (statement_of shown) after ≡ Err line
      by_lanes line (Ok lanes) is fault = let none =
          line_on None (lanes_end.ok after lanes.0 lanes.1 is) in cc (none, fault)
      by_lanes line (Err other) is fault =
          is ∙ ap (λ l. Err l) (same_Some other line
          (sym (line_on (Some other) (lanes_end.err after other is)) ∙ fault))

      line_tells : (line : ℕ) → IsClaimLine plans file line
          → lanes_and_end_at (statement_of shown) after ≡ Err line
      line_tells line fault = by_lanes line (lanes_and_end_at (statement_of shown) after) refl fault

  -- ---- the form

  shown_by : Way → (opened : Opened ClaimHead) (after : Rest) → read ≡ Ok (opened, after)
      → OpenedFront (claim_form plans) file
  shown_by (Stops line stop) opened after ok = let stopped = claim_stops line stop in
      cc (stopped, ok)
  shown_by (Refuses front rest is none) opened after ok =
      let refused = claim_refused front rest is none in cc (refused, ok)
  shown_by (Goes shown rest right is) opened after ok = record {
    front = shown;
    right = right;
    is = record {
      after = rest;
      text = (claim_front_part.shown (from_start file) shown.front rest is).1;
      read = claim_found shown rest right is;
    };
  }

  found : (shown : PlannedFront) → IsAdmitted plans shown
      → BeginsWith file (claim_front_text shown.front) → ReadFront (claim_form plans) file shown
  found shown right begins =
      let at = front_found shown.front (record { right = right.front; begins = begins }) in
      record { after = at.0; text = at.2; read = claim_found shown at.0 right at.1 }

  refused_by : Way → read ≡ Err (refusal.Front Public) → PublicFails plans file
  refused_by (Stops line stop) refused = let stopped = claim_stops line stop in
      cc (stopped, refused)
  refused_by (Refuses front rest is none) refused =
      record { front = front; has_front = front_shown front rest is; refused = none }
  refused_by (Goes shown rest right is) refused =
      let goes = claim_found shown rest right is in cc (goes, refused)

  refused : (reason : ClaimRefusal)
      → (read ≡ Err (refusal.Front reason)) ↔ ClaimRefuses plans reason file
  refused Public = (
    refused_by way,
    λ fails. let at = front_found fails.front fails.has_front in
        claim_refused fails.front at.0 at.1 fails.refused,
  )

  none_begins : (line : ℕ) → front_read ≡ Err line → (front : ClaimFront)
      → ¬ HasClaimFront file front
  none_begins line stop front has = let at = front_found front has in
      let there = at.1 in cc (there, stop)

  only_by : Way → (fault : Fault) → read ≡ Err (refusal.Fault fault)
      → (line : ℕ) × (fault ≡ Malformed part.Board line) × FrontStops plans file line
  only_by (Stops line stop) fault stopped =
      let at = claim_stops line stop in
      let same : Malformed part.Board line ≡ fault = cc (at, stopped) in (
        line,
        sym same,
        record { fault_line = stops_there line stop; none = none_begins line stop },
      )
  only_by (Refuses front rest is none) fault stopped =
      let refused = claim_refused front rest is none in cc (refused, stopped)
  only_by (Goes shown rest right is) fault stopped =
      let goes = claim_found shown rest right is in cc (goes, stopped)

  stops_by : Way → (line : ℕ) → FrontStops plans file line
      → read ≡ Err (refusal.Fault (Malformed part.Board line))
  stops_by (Stops other stop) line stops =
      claim_stops other stop
      ∙ ap (λ l. Err (refusal.Fault (Malformed part.Board l)))
      (same_Some other line (sym (stops_there other stop) ∙ stops.fault_line))
  stops_by (Refuses front rest is none) line stops =
      absurd (stops.none front (front_shown front rest is))
  stops_by (Goes shown rest right is) line stops =
      absurd (stops.none shown.front (front_shown shown.front rest is))

  stopped_line : (line other : ℕ) → Malformed part.Board line ≡ Malformed part.Board other
      → line ≡ other
  stopped_line line other same = cc

  stops : (line : ℕ)
      → (read ≡ Err (refusal.Fault (Malformed part.Board line))) ↔ FrontStops plans file line
  stops line = (
    λ stopped. let at = only_by way (Malformed part.Board line) stopped in
        subst (FrontStops plans file) (sym (stopped_line line at.0 at.1)) at.2,
    stops_by way line,
  )

  -- what was read of the front of a claim
  front_by : Way → (shown : PlannedFront) (after : Rest) → read ≡ Ok (claim_of shown, after)
      → front_read ≡ Ok (shown.front, after)
  front_by (Stops line stop) shown after ok =
      let stopped = claim_stops line stop in cc (stopped, ok)
  front_by (Refuses front rest is none) shown after ok =
      let refused = claim_refused front rest is none in cc (refused, ok)
  front_by (Goes other rest right is) shown after ok =
      is ∙ ap (λ (p : Opened ClaimHead × Rest). Ok ((front_in p.0).front, p.1))
      (value_same (claim_of other, rest) (claim_of shown, after)
      (sym (claim_found other rest right is) ∙ ok))

pub is_form : (plans : Plans) → AreRight plans → IsForm (claim_form plans)
is_form plans right = record {
  statement = statement_right plans right;
  one = λ shown other same. ap front_in same;
  shown = λ file. shown_by plans file (way plans file);
  found = found plans;
  refused = refused plans;
  stops = stops plans;
  only = λ file fault stopped. let at = only_by plans file (way plans file) fault stopped in
      (at.0, at.1);
  line = λ file shown admitted is line.
      let at = front_by plans file (way plans file) shown is.after is.read in (
        line_told plans file shown admitted is.after at line,
        line_tells plans file shown admitted is.after at line,
      );
}
