-- Where judging stops in a lane: the lanes before it were read and are checked.
use Rattle.std.proofs.Common.{◌≡◌, ℕ, zero, suc, ◌+◌, ◌-◌, ◌<◌, Bool, false, List, [], ◌∷◌, length, take, Ok, Err, inl, inr, refl, ap, ◌∙◌, subst, arith}
use Rattle.std.specs.Prelude.{slice_index_or}
use Rattle.std.proofs.lemmas.List.{length-take-le}
use Rattle.vk_residue.specs.Steps.{◌>>=◌}
use Rattle.vk_lines.specs.Lines.{Rest}
use Rattle.vk_wire.specs.declared.wire.Shown.{Shown}
use Rattle.vk_row.specs.LaneTests.{checked_lane}
use Rattle.vk_board.specs.declared.board.LaneLines.{LaneLines}
use Rattle.vk_board.specs.Reading.{lane_at}
use Rattle.vk_reply.specs.declared.challenge.Challenge.{Challenge}
use Rattle.vk_reply.specs.Reading.{reply_lane_at}
use Rattle.vk_judge.specs.declared.answers.Part.TheVariants as part
use Rattle.vk_judge.specs.declared.answers.Fault.{Fault}
use Rattle.vk_judge.specs.Statement.{StatementValue}
use Rattle.vk_judge.specs.Behind.{in_part, later_wires, case_of, lane_fault, lane_judged, lanes_judged}
use Rattle.vk_judge.specs.Acceptance.{bit_of}
use Rattle.vk_judge.proofs.Steps.{Unread, bind_err, read_err}
use Rattle.vk_judge.proofs.LaneLists.{LanesRead, lanes_shown, taken_bits}

-- the lane at that index is not passed, and those before it are
record StopsAt (s : StatementValue) (number : ℕ) (bits : List Bool) (file reply : Rest)
    (fault : Fault) : Type 0 where
  index : ℕ
  within : index < length bits
  rests : Rest × Rest
  before : lanes_judged s number (take index bits) file reply ≡ Ok rests
  stop : lane_judged s (number + index) (slice_index_or bits index false) rests.0 rests.1
      ≡ Err fault

stops_later : (s : StatementValue) (number : ℕ) (bit : Bool) (bits : List Bool) (file reply : Rest)
    (fault : Fault)
    (rests : Rest × Rest)
    → lane_judged s number bit file reply ≡ Ok rests
    → StopsAt s (number + 1) bits rests.0 rests.1 fault
    → StopsAt s number (bit ∷ bits) file reply fault
unfolding lanes_judged
stops_later s number bit bits file reply fault rests first later =
    let there : number + suc later.index ≡ number + 1 + later.index = omega arith in
    record {
      index = suc later.index;
      within = omega (arith, later.within);
      rests = later.rests;
      before = ap (λ r. r >>= λ r. lanes_judged s (number + 1) (take later.index bits) r.0 r.1)
          first ∙ later.before;
      stop = ap (λ n. lane_judged s n (slice_index_or bits later.index false) later.rests.0
          later.rests.1) there ∙ later.stop;
    }

stops_at : (s : StatementValue) (number : ℕ) (bits : List Bool) (file reply : Rest) (fault : Fault)
    → lanes_judged s number bits file reply ≡ Err fault
    → StopsAt s number bits file reply fault
unfolding lanes_judged
stops_at s number [] file reply fault stop = cc
stops_at s number (bit ∷ bits) file reply fault stop =
    elim (bind_err (lane_judged s number bit file reply)
    (λ r. lanes_judged s (number + 1) bits r.0 r.1) fault stop) [
      | inl here ↦
          let same : number + zero ≡ number = omega arith in
          record {
            index = zero;
            within = omega arith;
            rests = (file, reply);
            before = refl;
            stop = ap (λ n. lane_judged s n bit file reply) same ∙ here;
          }
      | inr next ↦ stops_later s number bit bits file reply fault next.0 next.1
          (stops_at s (number + 1) bits next.0.0 next.0.1 fault next.2)
    ]

-- judging the lanes of a challenge stops in this one, after so many that were read and are checked
pub record LanesStop (s : StatementValue) (bits : Challenge) (file reply : Rest)
    (fault : Fault) : Type 0 where
  pub count : ℕ
  pub within : count < length bits.bits
  pub rests : Rest × Rest
  pub read : LanesRead s (bit_of bits) [] [] count file reply rests
  pub stop : lane_judged s (count + 1) (bit_of bits (count + 1)) rests.0 rests.1 ≡ Err fault

pub lanes_stop : (s : StatementValue) (bits : Challenge) (file reply : Rest) (fault : Fault)
    → lanes_judged s 1 bits.bits file reply ≡ Err fault
    → LanesStop s bits file reply fault
lanes_stop s bits file reply fault stop =
    let at = stops_at s 1 bits.bits file reply fault stop in
    let count : length (take at.index bits.bits) ≡ at.index =
    length-take-le at.index bits.bits (omega (arith, at.within)) in
    let are = taken_bits bits at.index (omega (arith, at.within)) in
    let number : at.index + 1 ≡ 1 + at.index = omega arith in
    let here : at.index + 1 - 1 ≡ at.index = omega arith in
    let L : ℕ → Type 0 = λ n. LanesRead s (bit_of bits) [] [] n file reply at.rests in
    record {
      count = at.index;
      within = at.within;
      rests = at.rests;
      read = subst L count (lanes_shown s (bit_of bits) [] [] (take at.index bits.bits) file reply
          at.rests refl are at.before);
      stop = ap (λ n. lane_judged s n (bit_of bits (at.index + 1)) at.rests.0 at.rests.1) number
          ∙ ap (λ i. lane_judged s (1 + at.index) (slice_index_or bits.bits i false) at.rests.0
          at.rests.1) here ∙ at.stop;
    }

-- ---- the lane that isn't passed

-- its lines on the file or in the reply are not of its form, or what is shown of it has a fault
pub data LaneStop (s : StatementValue) (number : ℕ) (bit : Bool) (file reply : Rest)
    (fault : Fault) : Type 0 where
  NoLines : Unread part.Board (lane_at number (later_wires s.plan) (length s.plan.rows) file) fault
      → LaneStop s number bit file reply fault
  NoShown : (lines : LaneLines) (next : Rest)
      → lane_at number (later_wires s.plan) (length s.plan.rows) file ≡ Ok (lines, next)
      → Unread part.Reply (reply_lane_at number s.plan.kinds bit reply) fault
      → LaneStop s number bit file reply fault
  NotPassed : (lines : LaneLines) (shown : List Shown) (next after : Rest)
      → lane_at number (later_wires s.plan) (length s.plan.rows) file ≡ Ok (lines, next)
      → reply_lane_at number s.plan.kinds bit reply ≡ Ok (shown, after)
      → lane_fault number (checked_lane s.plan (case_of s number lines) bit shown) ≡ Err fault
      → LaneStop s number bit file reply fault

pub lane_stop : (s : StatementValue) (number : ℕ) (bit : Bool) (file reply : Rest) (fault : Fault)
    → lane_judged s number bit file reply ≡ Err fault
    → LaneStop s number bit file reply fault
unfolding lane_judged
lane_stop s number bit file reply fault stop =
    elim (read_err part.Board (lane_at number (later_wires s.plan) (length s.plan.rows) file)
    (λ lines. in_part part.Reply (reply_lane_at number s.plan.kinds bit reply) >>= λ shown.
    lane_fault number (checked_lane s.plan (case_of s number lines.0) bit shown.0) >>= λ done.
    Ok (lines.1, shown.1)) fault stop) [
      | inl unread ↦ NoLines unread
      | inr lines ↦ elim (read_err part.Reply (reply_lane_at number s.plan.kinds bit reply)
          (λ shown. lane_fault number (checked_lane s.plan (case_of s number lines.0.0) bit shown.0)
          >>= λ done. Ok (lines.0.1, shown.1)) fault lines.2) [
            | inl unread ↦ NoShown lines.0.0 lines.0.1 lines.1 unread
            | inr shown ↦ elim (bind_err
                (lane_fault number (checked_lane s.plan (case_of s number lines.0.0) bit shown.0.0))
                (λ done. Ok (lines.0.1, shown.0.1)) fault shown.2) [
                  | inl fails ↦ NotPassed lines.0.0 shown.0.0 lines.0.1 shown.0.1 lines.1 shown.1
                      fails
                  | inr over ↦ cc over.2
                ]
          ]
    ]
