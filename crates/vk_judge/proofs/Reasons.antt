-- Each fault that is found behind a front holds of the files.
use Rattle.std.proofs.Common.{◌≡◌, ℕ, ◌+◌, ◌<◌, ◌==◌, ◌⊎◌, Bool, true, false, if◌then◌else◌, List, [], ◌++◌, length, Result, Ok, Err, inl, inr, refl, ap, ◌∙◌, subst, arith}
use Rattle.std.specs.Result.{result_err}
use Rattle.std.proofs.lemmas.Bool.{and_from, eq-eqb}
use Rattle.vk_residue.specs.Steps.{◌>>=◌}
use Rattle.vk_lines.specs.Lines.{Rest, end_at}
use Rattle.vk_row.specs.declared.case.LaneFault.{LaneFault}
use Rattle.vk_row.specs.declared.case.LaneFault.TheVariants as faults
use Rattle.vk_row.specs.LaneTests.{checked_lane}
use Rattle.vk_row.proofs.Whole.{err_faulty}
use Rattle.vk_wire.specs.declared.wire.Shown.{Shown}
use Rattle.vk_board.specs.declared.board.LaneLines.{LaneLines}
use Rattle.vk_board.specs.Reading.{lane_at}
use Rattle.vk_reply.specs.declared.challenge.Challenge.{Challenge}
use Rattle.vk_reply.specs.Reading.{challenge_at, reply_head_at, reply_lane_at, reply_at}
use Rattle.vk_reply.proofs.Challenges.{challenge_fault}
use Rattle.vk_reply.proofs.Replies.{reply_fault}
use Rattle.vk_reply.proofs.Replies as replies
use Rattle.vk_judge.specs.declared.answers.Part.TheVariants as part
use Rattle.vk_judge.specs.declared.answers.Fault.{Fault}
use Rattle.vk_judge.specs.declared.answers.Fault.TheVariants.{Malformed, Lanes, Wire, Row}
use Rattle.vk_judge.specs.Statement.{StatementValue, IsStatement}
use Rattle.vk_judge.specs.Behind.{in_part, case_of, later_wires, lane_fault, lanes_judged, counted, ends_judged, behind_judged}
use Rattle.vk_judge.specs.Begun.{from_start}
use Rattle.vk_judge.specs.Acceptance.{bit_of}
use Rattle.vk_judge.specs.Refusals.{HasCount, LaneFails, ReplyStops, ReplyFails, lanes_and_end_at, FaultHolds}
use Rattle.vk_judge.proofs.Steps.{bind_err, read_err}
use Rattle.vk_judge.proofs.Many.{parts_and_end, stop_in, stop_after}
use Rattle.vk_judge.proofs.LaneLists.{next_lines, next_shown, bits_are, lanes_shown}
use Rattle.vk_judge.proofs.LaneStops.{lanes_stop, LaneStop, NoLines, NoShown, NotPassed, lane_stop}
use Rattle.vk_judge.proofs.Files.{Begun, begun_with, counts, ends_then, lanes_then, reply_then, bits_then}
use Rattle.vk_judge.proofs.Wholes.{reply_behind, reply_no_head}
use Rattle.vk_judge.proofs.Passed.{Passed, is_challenge, has_count, lines_are, shown_are, lanes_pass, next_bit, lines_next, shown_next, file_goes_on, file_found, reply_goes_on, reply_found, next_counts, file_over, file_end, reply_end}

pub err_same : {X E : Type 0} (e f : E) → ◌≡◌ {A = Result X E} (Err e) (Err f) → e ≡ f
err_same e f same = cc

module _ (s : StatementValue) (is : IsStatement s) (front file challenge reply : List ℕ) (rest : Rest)
    (at : file ≡ front ++ rest.left)
    (IsFaultLine : ℕ → Type 0) (told : (line : ℕ) → lanes_and_end_at s rest ≡ Err line → IsFaultLine line) where
  abbrev Why : Fault → Type 0
  Why fault = FaultHolds s front IsFaultLine fault file challenge reply

  abbrev LanesAre : Type 0
  LanesAre = Passed s front file challenge reply rest

  reply_why : (bits : Challenge) (over : Rest) (line : ℕ)
      → challenge_at (from_start challenge) ≡ Ok (bits, over)
      → reply_at s.plan.kinds (bit_of bits) (from_start reply) ≡ Err line
      → ((lanes : ℕ) → ¬ HasCount reply lanes) ⊎ ReplyStops s front file challenge reply
      → ReplyFails s front file challenge reply line
  reply_why bits over line read stop place = record {
    challenge = bits;
    is_challenge = is_challenge challenge bits over read;
    fault = reply_fault s.plan.kinds (bit_of bits) reply ∙ ap result_err stop;
    place = place;
  }

  -- ---- a lane

  module _ (p : LanesAre) (more : p.count < s.lanes) where
    no_lines : (line : ℕ) → lines_next p ≡ Err line → Why (Malformed part.Board line)
    no_lines line stop =
        let here : next_lines s p.read.lines p.rests.0 ≡ Err line =
        ap (λ n. lane_at (n + 1) (later_wires s.plan) (length s.plan.rows) p.rests.0)
        (lines_are p).0.0 ∙ stop in (
          told line (stop_in (next_lines s) p.count s.lanes rest p.read.lines p.rests.0 line more
              p.read.board_read here),
          record {
            lanes = p.count;
            before = lanes_pass p;
            lane = λ less lines goes_on. let found = file_found p lines more goes_on in
                cc (found.1, stop);
            over = λ all. absurd (omega (arith, more, all));
          },
        )

    no_shown : (lines : LaneLines) (after : Rest) (line : ℕ) → lines_next p ≡ Ok (lines, after)
        → shown_next p ≡ Err line → Why (Malformed part.Reply line)
    no_shown lines after line lines_read stop =
        let bits = p.begun.bits in
        let next = next_shown s (bit_of bits) in
        let here : next p.read.shown p.rests.1 ≡ Err line =
        ap (λ n. reply_lane_at (n + 1) s.plan.kinds (bit_of bits (n + 1)) p.rests.1)
        (shown_are p).0.0 ∙ stop in
        reply_why bits p.begun.challenge_rest line p.begun.challenge_read
        (reply_behind s.plan.kinds (bit_of bits) (from_start reply) s.lanes p.begun.count_rest
        p.begun.count_read
        ∙ stop_in next p.count s.lanes p.begun.count_rest p.read.shown p.rests.1 line more
        p.read.reply_read here) (inr (record {
          lanes = p.count;
          before = lanes_pass p;
          lane = λ less. (
            (lines, file_goes_on p lines after more lines_read),
            λ shown goes_on.
                let found = reply_found p shown more goes_on in cc (found.1, stop),
          );
          over = λ all. absurd (omega (arith, more, all));
        }))

    lane_fails : (lines : LaneLines) (shown : List Shown) (next after : Rest) (fault : LaneFault)
        → lines_next p ≡ Ok (lines, next) → shown_next p ≡ Ok (shown, after)
        → checked_lane s.plan (case_of s (p.count + 1) lines) (next_bit p) shown ≡ Err fault
        → LaneFails s front file challenge reply (p.count + 1) fault
    lane_fails lines shown next after fault lines_read shown_read stop = record {
      lanes = p.count;
      is_next = refl;
      before = lanes_pass p;
      within = omega (arith, more);
      next = lines;
      shown = shown;
      in_file = file_goes_on p lines next more lines_read;
      in_reply = reply_goes_on p shown after more shown_read;
      has_fault = err_faulty s.plan (case_of s (p.count + 1) lines) (next_bit p) shown fault is.plan
          (next_counts p lines shown next after more lines_read shown_read) stop;
    }

    by_fault : (checked : Result (List ℕ) LaneFault) (fault : Fault)
        → lane_fault (p.count + 1) checked ≡ Err fault
        → ((lane : LaneFault) → checked ≡ Err lane
        → LaneFails s front file challenge reply (p.count + 1) lane)
        → Why fault
    by_fault (Ok halves) fault stop fails = cc
    by_fault (Err (faults.Wire wire reason)) fault stop fails = subst Why
        (err_same {X = Unit {0}} (Wire (p.count + 1) wire reason) fault stop)
        (fails (faults.Wire wire reason) refl)
    by_fault (Err (faults.Row row)) fault stop fails = subst Why
        (err_same {X = Unit {0}} (Row (p.count + 1) row) fault stop) (fails (faults.Row row) refl)
    by_fault (Err faults.NoMemory) fault stop fails = cc

    lane_why : (fault : Fault) → LaneStop s (p.count + 1) (next_bit p) p.rests.0 p.rests.1 fault
        → Why fault
    lane_why fault (NoLines unread) = subst Why unread.is (no_lines unread.line unread.stop)
    lane_why fault (NoShown lines after lines_read unread) = subst Why unread.is
        (no_shown lines after unread.line lines_read unread.stop)
    lane_why fault (NotPassed lines shown next after lines_read shown_read fails) =
        by_fault (checked_lane s.plan (case_of s (p.count + 1) lines) (next_bit p) shown) fault
        fails
        (λ lane stop. lane_fails lines shown next after lane lines_read shown_read stop)

  -- ---- the ends

  module _ (p : LanesAre) (all : p.count ≡ s.lanes) where
    no_file_end : (line : ℕ) → end_at p.rests.0 ≡ Err line → Why (Malformed part.Board line)
    no_file_end line stop =
        let E : ℕ → Type 0 = λ n. parts_and_end (next_lines s) n rest ≡ Err line in (
          told line (subst E all
              (stop_after (next_lines s) p.count rest p.read.lines p.rests.0 line p.read.board_read
              stop)),
          record {
            lanes = p.count;
            before = lanes_pass p;
            lane = λ less. absurd (omega (arith, less, all));
            over = λ same text. let found = file_end p text in cc (found.1, stop);
          },
        )

    no_reply_end : (line : ℕ) (over : Unit {0} × Rest) → end_at p.rests.0 ≡ Ok over
        → end_at p.rests.1 ≡ Err line
        → Why (Malformed part.Reply line)
    no_reply_end line over read stop =
        let bits = p.begun.bits in
        let next = next_shown s (bit_of bits) in
        let E : ℕ → Type 0 = λ n. parts_and_end next n p.begun.count_rest ≡ Err line in
        reply_why bits p.begun.challenge_rest line p.begun.challenge_read
        (reply_behind s.plan.kinds (bit_of bits) (from_start reply) s.lanes p.begun.count_rest
        p.begun.count_read
        ∙ subst E all (stop_after next p.count p.begun.count_rest p.read.shown p.rests.1 line
        p.read.reply_read stop))
        (inr (record {
          lanes = p.count;
          before = lanes_pass p;
          lane = λ less. absurd (omega (arith, less, all));
          over = λ same. (
            file_over p over read,
            λ text. let found = reply_end p all text in
                cc (found.1, stop),
          );
        }))

    ends_why : (fault : Fault) → ends_judged p.rests.0 p.rests.1 ≡ Err fault → Why fault
    unfolding ends_judged
    ends_why fault fails =
        elim (read_err part.Board (end_at p.rests.0)
        (λ over. in_part part.Reply (end_at p.rests.1) >>= λ end. Ok tt)
        fault fails) [
          | inl unread ↦ subst Why unread.is (no_file_end unread.line unread.stop)
          | inr over ↦ elim (read_err part.Reply (end_at p.rests.1) (λ end. Ok tt) fault over.2) [
            | inl unread ↦ subst Why unread.is (no_reply_end unread.line over.0 over.1 unread.stop)
            | inr last ↦ cc last.2
          ]
        ]

  -- ---- all that stands behind the front

  lanes_why : (begun : Begun s (from_start challenge) (from_start reply)) (fault : Fault)
      → lanes_judged s 1 begun.bits.bits rest begun.count_rest ≡ Err fault → Why fault
  lanes_why begun fault fails =
      let stop = lanes_stop s begun.bits rest begun.count_rest fault fails in
      let p : LanesAre = record {
        is = is;
        at = at;
        begun = begun;
        count = stop.count;
        within = omega (arith, stop.within, begun.one_bit_each);
        rests = stop.rests;
        read = stop.read;
      } in
      lane_why p (omega (arith, stop.within, begun.one_bit_each)) fault
      (lane_stop s (stop.count + 1) (bit_of begun.bits (stop.count + 1)) stop.rests.0 stop.rests.1
      fault stop.stop)

  begun_why : (begun : Begun s (from_start challenge) (from_start reply)) (fault : Fault)
      → (lanes_judged s 1 begun.bits.bits rest begun.count_rest >>= ends_then) ≡ Err fault
      → Why fault
  begun_why begun fault stop =
      elim (bind_err (lanes_judged s 1 begun.bits.bits rest begun.count_rest) ends_then fault stop) [
        | inl fails ↦ lanes_why begun fault fails
        | inr passed ↦ ends_why (record {
          is = is;
          at = at;
          begun = begun;
          count = length begun.bits.bits;
          within = omega (arith, begun.one_bit_each);
          rests = passed.0;
          read = lanes_shown s (bit_of begun.bits) [] [] begun.bits.bits rest begun.count_rest
              passed.0 refl
              (bits_are begun.bits) passed.1;
        }) begun.one_bit_each fault passed.2
      ]

  no_count : (line : ℕ) → reply_head_at (from_start reply) ≡ Err line → (lanes : ℕ)
      → ¬ HasCount reply lanes
  no_count line stop lanes has =
      let found = replies.head_is_part.found (from_start reply) lanes has.begins.0
      (has.count.least, has.count.most) has.begins.1 in
      cc (found.1, stop)

  -- the numbers of lanes
  count_why : (bits : Challenge × Rest) (count : ℕ × Rest) (same : Bool) (fault : Fault)
      → challenge_at (from_start challenge) ≡ Ok bits → reply_head_at (from_start reply) ≡ Ok count
      → counts s.lanes bits.0 count.0 ≡ same
      → ◌≡◌ {A = Result (Unit {0}) Fault} (if same then Ok tt else Err Lanes) (Err fault)
      → Why fault
  count_why bits count true fault challenge_read count_read counted stop = cc
  count_why bits count false fault challenge_read count_read counted stop = subst Why
      (err_same {X = Unit {0}} Lanes fault stop) (record {
        challenge = bits.0;
        replies = count.0;
        is_challenge = is_challenge challenge bits.0 bits.1 challenge_read;
        has_count = has_count reply count.0 count.1 count_read;
        differ = λ both.
            let equal : counts s.lanes bits.0 count.0 ≡ true =
            and_from (length bits.0.bits == s.lanes) (count.0 == s.lanes)
            (eq-eqb (length bits.0.bits) s.lanes both.0) (eq-eqb count.0 s.lanes both.1) in
            cc (counted, equal);
      })

  pub fault_holds : (fault : Fault) → behind_judged s rest (from_start challenge) (from_start reply)
      ≡ Err fault
      → Why fault
  unfolding behind_judged
  fault_holds fault stop =
      elim (read_err part.Challenge (challenge_at (from_start challenge))
      (bits_then s rest (from_start reply)) fault stop) [
        | inl unread ↦ subst Why unread.is (challenge_fault challenge ∙ ap result_err unread.stop)
        | inr bits ↦ elim (read_err part.Reply (reply_head_at (from_start reply))
            (reply_then s rest bits.0) fault bits.2) [
              | inl unread ↦ subst Why unread.is (reply_why bits.0.0 bits.0.1 unread.line bits.1
                  (reply_no_head s.plan.kinds (bit_of bits.0.0) (from_start reply) unread.line
                  unread.stop)
                  (inl (no_count unread.line unread.stop)))
              | inr count ↦ elim (bind_err (counted s.lanes bits.0.0 count.0.0)
                  (λ same. lanes_then s rest bits.0 count.0)
                  fault count.2) [
                    | inl differ ↦ count_why bits.0 count.0 (counts s.lanes bits.0.0 count.0.0) fault
                        bits.1 count.1 refl differ
                    | inr same ↦ begun_why
                        (begun_with s (from_start challenge) (from_start reply) bits.0 count.0 same.0
                        bits.1
                        count.1 same.1) fault same.2
                  ]
            ]
      ]
