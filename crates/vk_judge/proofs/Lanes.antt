-- A lane that is judged: its lines are read, and what is shown of it is checked.
use Rattle.std.proofs.Common.{◌≡◌, ◌≢◌, ℕ, Bool, List, [], ◌∷◌, ◌++◌, length, Option, Some, None, Result, Ok, Err, refl, ap, ◌∙◌}
use Rattle.vk_residue.specs.Steps.{◌>>=◌}
use Rattle.vk_lines.specs.Lines.{Rest}
use Rattle.vk_plan.specs.Plans.{PlanValue}
use Rattle.vk_plan.specs.declared.wire.WireKind.{WireKind}
use Rattle.vk_wire.specs.Reads.{read_of}
use Rattle.vk_wire.specs.declared.wire.Shown.{Shown}
use Rattle.vk_wire.specs.declared.wire.WireCom.{WireCom}
use Rattle.vk_wire.specs.declared.wire.WireFault.{WireFault}
use Rattle.vk_row.specs.declared.case.LaneCase.{LaneCase}
use Rattle.vk_row.specs.declared.case.LaneFault.{LaneFault}
use Rattle.vk_row.specs.declared.case.LaneFault.TheVariants.{Wire, Row, NoMemory}
use Rattle.vk_row.specs.Lanes.{place_in}
use Rattle.vk_row.specs.LaneTests.{at_wire, halves_from, first_false_row, judged, checked_lane}
use Rattle.vk_board.specs.declared.board.LaneLines.{LaneLines}
use Rattle.vk_board.specs.Reading.{lane_at}
use Rattle.vk_reply.specs.Reading.{reply_lane_at}
use Rattle.vk_judge.specs.declared.answers.Part.TheVariants as part
use Rattle.vk_judge.specs.Statement.{StatementValue}
use Rattle.vk_judge.specs.Behind.{in_part, case_of, later_wires, lane_fault, lane_judged}
use Rattle.vk_judge.proofs.Steps.{bind_ok, bind_never, read_ok, read_found, value_same}

-- ---- no definition is in want of memory

wire_never : (wire : ℕ) (read : Result ℕ WireFault) → at_wire wire read ≢ Err NoMemory
wire_never wire (Ok half) e = cc
wire_never wire (Err fault) e = cc

halves_never : (case : LaneCase) (bit : Bool) (halves : List ℕ) (kinds : List WireKind)
    (coms : List WireCom)
    (shown : List Shown) → halves_from case bit halves kinds coms shown ≢ Err NoMemory
unfolding halves_from
halves_never case bit halves (kind ∷ kinds) (digests ∷ coms) (one ∷ shown) e =
    let read : Result ℕ WireFault = read_of kind (place_in case (length halves)) digests one bit in
    bind_never (at_wire (length halves) read)
    (λ half. halves_from case bit (halves ++ half ∷ []) kinds coms shown) NoMemory
    (wire_never (length halves) read)
    (λ half. halves_never case bit (halves ++ half ∷ []) kinds coms shown) e
halves_never case bit halves kinds coms shown e = cc

row_never : (halves : List ℕ) (row : Option ℕ) → judged halves row ≢ Err NoMemory
row_never halves None e = cc
row_never halves (Some row) e = cc

check_never : (plan : PlanValue) (case : LaneCase) (bit : Bool) (shown : List Shown)
    → checked_lane plan case bit shown ≢ Err NoMemory
unfolding checked_lane
check_never plan case bit shown =
    bind_never (halves_from case bit [] plan.kinds case.coms shown)
    (λ halves. judged halves (first_false_row bit halves 0 plan.rows case.posted)) NoMemory
    (halves_never case bit [] plan.kinds case.coms shown)
    (λ halves. row_never halves (first_false_row bit halves 0 plan.rows case.posted))

verdict_shown : (number : ℕ) (checked : Result (List ℕ) LaneFault) (done : Unit {0})
    → checked ≢ Err NoMemory
    → lane_fault number checked ≡ Ok done → (halves : List ℕ) × (checked ≡ Ok halves)
verdict_shown number (Ok halves) done memory ok = (halves, refl)
verdict_shown number (Err (Wire wire fault)) done memory ok = cc
verdict_shown number (Err (Row row)) done memory ok = cc
verdict_shown number (Err NoMemory) done memory ok = absurd (memory refl)

-- ---- a lane

pub record LaneRead (s : StatementValue) (number : ℕ) (bit : Bool) (file reply : Rest)
    (rests : Rest × Rest) : Type 0 where
  pub lines : LaneLines
  pub shown : List Shown
  pub halves : List ℕ
  pub board_read : lane_at number (later_wires s.plan) (length s.plan.rows) file
      ≡ Ok (lines, rests.0)
  pub reply_read : reply_lane_at number s.plan.kinds bit reply ≡ Ok (shown, rests.1)
  pub checked : checked_lane s.plan (case_of s number lines) bit shown ≡ Ok halves

pub lane_shown : (s : StatementValue) (number : ℕ) (bit : Bool) (file reply : Rest)
    (rests : Rest × Rest)
    → lane_judged s number bit file reply ≡ Ok rests
    → LaneRead s number bit file reply rests
unfolding lane_judged
lane_shown s number bit file reply rests ok =
    let lines = read_ok part.Board (lane_at number (later_wires s.plan) (length s.plan.rows) file)
    (λ lines. in_part part.Reply (reply_lane_at number s.plan.kinds bit reply) >>= λ shown.
    lane_fault number (checked_lane s.plan (case_of s number lines.0) bit shown.0) >>= λ done.
    Ok (lines.1, shown.1)) rests ok in
    let shown = read_ok part.Reply (reply_lane_at number s.plan.kinds bit reply)
    (λ shown. lane_fault number (checked_lane s.plan (case_of s number lines.0.0) bit shown.0) >>=
    λ done. Ok (lines.0.1, shown.1)) rests lines.2 in
    let checked : Result (List ℕ) LaneFault =
    checked_lane s.plan (case_of s number lines.0.0) bit shown.0.0 in
    let done = bind_ok (lane_fault number checked) (λ done. Ok (lines.0.1, shown.0.1)) rests shown.2
    in
    let same = value_same (lines.0.1, shown.0.1) rests done.2 in
    let halves = verdict_shown number checked done.0
    (check_never s.plan (case_of s number lines.0.0) bit shown.0.0) done.1 in
    record {
      lines = lines.0.0;
      shown = shown.0.0;
      halves = halves.0;
      board_read = lines.1 ∙ ap (λ r. Ok (lines.0.0, r.0)) same;
      reply_read = shown.1 ∙ ap (λ r. Ok (shown.0.0, r.1)) same;
      checked = halves.1;
    }

pub lane_found : (s : StatementValue) (number : ℕ) (bit : Bool) (file reply : Rest)
    (rests : Rest × Rest)
    → LaneRead s number bit file reply rests
    → lane_judged s number bit file reply ≡ Ok rests
unfolding lane_judged
lane_found s number bit file reply rests read =
    read_found part.Board (lane_at number (later_wires s.plan) (length s.plan.rows) file)
    (λ lines. in_part part.Reply (reply_lane_at number s.plan.kinds bit reply) >>= λ shown.
    lane_fault number (checked_lane s.plan (case_of s number lines.0) bit shown.0) >>= λ done.
    Ok (lines.1, shown.1)) (read.lines, rests.0) read.board_read
    ∙ (read_found part.Reply (reply_lane_at number s.plan.kinds bit reply)
    (λ shown. lane_fault number (checked_lane s.plan (case_of s number read.lines) bit shown.0) >>=
    λ done. Ok (rests.0, shown.1)) (read.shown, rests.1) read.reply_read
    ∙ ap (λ c. lane_fault number c >>= λ done. Ok (rests.0, rests.1)) read.checked)
