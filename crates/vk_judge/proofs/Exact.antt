-- Each fault that holds of the files behind a front is found.
use Rattle.std.proofs.Common.{◌≡◌, ℕ, ◌+◌, ◌<◌, ◌≤◌, ◌==◌, ◌⊎◌, Bool, true, false, if◌then◌else◌, List, ◌++◌, length, Some, Result, Ok, Err, inl, inr, refl, ap, sym, ◌∙◌, subst, arith}
use Rattle.std.specs.Result.{result_err}
use Rattle.std.proofs.lemmas.Bool.{and_parts, eqb-true, cases_lt}
use Rattle.std.proofs.lemmas.Option.{same_Some}
use Rattle.vk_residue.specs.Steps.{◌>>=◌}
use Rattle.vk_lines.specs.Lines.{Rest, end_at}
use Rattle.vk_lines.specs.Forms.{fault_line}
use Rattle.vk_wire.specs.declared.wire.Shown.{Shown}
use Rattle.vk_row.specs.declared.case.LaneFault.{LaneFault}
use Rattle.vk_row.specs.declared.case.LaneFault.TheVariants as faults
use Rattle.vk_row.specs.Lanes.{HasLaneFault}
use Rattle.vk_row.specs.LaneTests.{checked_lane}
use Rattle.vk_row.proofs.Whole.{faulty_err}
use Rattle.vk_board.specs.declared.board.LaneLines.{LaneLines}
use Rattle.vk_board.specs.Reading.{lane_at}
use Rattle.vk_reply.specs.declared.challenge.Challenge.{Challenge}
use Rattle.vk_reply.specs.Texts.{reply_text}
use Rattle.vk_reply.specs.Tables.{reply_table}
use Rattle.vk_reply.specs.Reading.{challenge_at, reply_head_at, reply_lane_at}
use Rattle.vk_reply.proofs.Challenges.{challenge_is_whole, challenge_fault}
use Rattle.vk_reply.proofs.Replies as replies
use Rattle.vk_judge.specs.declared.answers.Part.TheVariants as part
use Rattle.vk_judge.specs.declared.answers.Fault.{Fault}
use Rattle.vk_judge.specs.declared.answers.Fault.TheVariants.{Malformed, Lanes, Wire, Row}
use Rattle.vk_judge.specs.Statement.{StatementValue, IsStatement}
use Rattle.vk_judge.specs.Behind.{in_part, case_of, later_wires, lane_fault, lane_judged, counted, ends_judged, behind_judged}
use Rattle.vk_judge.specs.Begun.{from_start}
use Rattle.vk_judge.specs.Acceptance.{bit_of, file_text}
use Rattle.vk_judge.specs.Refusals.{IsOfChallenge, HasCount, FileGoesOn, ReplyGoesOn, LaneFails, LanesFail, FileStops, ReplyStops, ReplyFails, lanes_and_end_at, FaultHolds, BehindIsExact}
use Rattle.vk_judge.proofs.Steps.{read_found, value_same}
use Rattle.vk_judge.proofs.Files.{counts, lanes_then, reply_then, bits_then}
use Rattle.vk_judge.proofs.Passed.{Passed, has_count, next_bit, lines_next, shown_next, file_goes_on, file_found, reply_goes_on, reply_found, next_counts, file_over, file_end, reply_over, lane_refused, ends_are, passed}
use Rattle.vk_judge.proofs.Accepted.{accepted_behind}
use Rattle.vk_judge.proofs.Reasons.{err_same, fault_holds}

-- ---- a lane

abbrev shown_then : StatementValue → ℕ → Bool → LaneLines × Rest → List Shown × Rest
    → Result (Rest × Rest) Fault
shown_then s number bit lines shown =
    lane_fault number (checked_lane s.plan (case_of s number lines.0) bit shown.0)
    >>= λ done. Ok (lines.1, shown.1)

abbrev lines_then : StatementValue → ℕ → Bool → Rest → LaneLines × Rest → Result (Rest × Rest) Fault
lines_then s number bit reply lines =
    in_part part.Reply (reply_lane_at number s.plan.kinds bit reply)
    >>= shown_then s number bit lines

module _ (s : StatementValue) (number : ℕ) (bit : Bool) (file reply : Rest) where
  no_lines_there : (line : ℕ) → lane_at number (later_wires s.plan) (length s.plan.rows) file
      ≡ Err line
      → lane_judged s number bit file reply ≡ Err (Malformed part.Board line)
  unfolding lane_judged
  no_lines_there line stop = ap (λ r. in_part part.Board r >>= lines_then s number bit reply) stop

  no_shown_there : (lines : LaneLines) (next : Rest) (line : ℕ)
      → lane_at number (later_wires s.plan) (length s.plan.rows) file ≡ Ok (lines, next)
      → reply_lane_at number s.plan.kinds bit reply ≡ Err line
      → lane_judged s number bit file reply ≡ Err (Malformed part.Reply line)
  unfolding lane_judged
  no_shown_there lines next line found stop =
      read_found part.Board (lane_at number (later_wires s.plan) (length s.plan.rows) file)
      (lines_then s number bit reply) (lines, next) found
      ∙ ap (λ r. in_part part.Reply r >>= shown_then s number bit (lines, next)) stop

  fault_there : (lines : LaneLines) (shown : List Shown) (next after : Rest) (lane : LaneFault)
      (fault : Fault)
      → lane_at number (later_wires s.plan) (length s.plan.rows) file ≡ Ok (lines, next)
      → reply_lane_at number s.plan.kinds bit reply ≡ Ok (shown, after)
      → checked_lane s.plan (case_of s number lines) bit shown ≡ Err lane
      → lane_fault number (Err lane) ≡ Err fault
      → lane_judged s number bit file reply ≡ Err fault
  unfolding lane_judged
  fault_there lines shown next after lane fault found shown_found stop is =
      read_found part.Board (lane_at number (later_wires s.plan) (length s.plan.rows) file)
      (lines_then s number bit reply) (lines, next) found
      ∙ (read_found part.Reply (reply_lane_at number s.plan.kinds bit reply)
      (shown_then s number bit (lines, next))
      (shown, after) shown_found
      ∙ (ap (λ c. lane_fault number c >>= λ done. Ok (next, after)) stop
      ∙ ap (λ r. r >>= λ (done : Unit {0}). Ok (next, after)) is))

-- ---- after lanes that pass

module _ {s : StatementValue} {front file challenge reply : List ℕ} {rest : Rest}
    (p : Passed s front file challenge reply rest) where
  abbrev whole : Result (Unit {0}) Fault
  whole = behind_judged s rest (from_start challenge) (from_start reply)

  -- the next lane isn't in the file, or not in the reply, or has a fault
  no_next_lines : (r : Result (LaneLines × Rest) ℕ) → lines_next p ≡ r → p.count < s.lanes
      → ((lines : LaneLines) → ¬ FileGoesOn s front file p.read.lines lines)
      → (line : ℕ) × (whole ≡ Err (Malformed part.Board line))
  no_next_lines (Ok lines) is more none =
      absurd (none lines.0 (file_goes_on p lines.0 lines.1 more is))
  no_next_lines (Err line) is more none = (
    line,
    lane_refused p (Malformed part.Board line) more
        (no_lines_there s (p.count + 1) (next_bit p) p.rests.0 p.rests.1 line is),
  )

  no_next_shown : (r : Result (List Shown × Rest) ℕ) → shown_next p ≡ r → p.count < s.lanes
      → (lines : LaneLines)
      → FileGoesOn s front file p.read.lines lines
      → ((shown : List Shown) → ¬ ReplyGoesOn s reply p.begun.bits p.read.shown shown)
      → (line : ℕ) × (whole ≡ Err (Malformed part.Reply line))
  no_next_shown (Ok shown) is more lines goes_on none =
      absurd (none shown.0 (reply_goes_on p shown.0 shown.1 more is))
  no_next_shown (Err line) is more lines goes_on none =
      let found = file_found p lines more goes_on in (
        line,
        lane_refused p (Malformed part.Reply line) more
            (no_shown_there s (p.count + 1) (next_bit p) p.rests.0 p.rests.1 lines found.0 line
            found.1 is),
      )

  next_fails : (lane : LaneFault) (fault : Fault) (lines : LaneLines) (shown : List Shown)
      → p.count < s.lanes
      → FileGoesOn s front file p.read.lines lines
      → ReplyGoesOn s reply p.begun.bits p.read.shown shown
      → HasLaneFault s.plan (case_of s (p.count + 1) lines) (next_bit p) shown lane
      → lane_fault (p.count + 1) (Err lane) ≡ Err fault → whole ≡ Err fault
  next_fails lane fault lines shown more goes_on reply_goes has_fault is =
      let found = file_found p lines more goes_on in
      let there = reply_found p shown more reply_goes in
      let counts = next_counts p lines shown found.0 there.0 more found.1 there.1 in
      lane_refused p fault more
      (fault_there s (p.count + 1) (next_bit p) p.rests.0 p.rests.1 lines shown found.0
      there.0 lane fault found.1 there.1
      (faulty_err s.plan (case_of s (p.count + 1) lines) (next_bit p) shown lane p.is.plan counts
      has_fault) is)

  -- the file doesn't end there, or the reply doesn't
  no_file_end : (r : Result (Unit {0} × Rest) ℕ) → end_at p.rests.0 ≡ r → p.count ≡ s.lanes
      → ¬ (file ≡ file_text front p.read.lines)
      → (line : ℕ) × (whole ≡ Err (Malformed part.Board line))
  unfolding ends_judged
  no_file_end (Ok over) is all none = absurd (none (file_over p over is))
  no_file_end (Err line) is all none = (
    line,
    ends_are p all ∙ ap (λ r. in_part part.Board r >>= λ over. in_part part.Reply (end_at p.rests.1)
        >>= λ end. Ok tt) is,
  )

  no_reply_end : (r : Result (Unit {0} × Rest) ℕ) → end_at p.rests.1 ≡ r → p.count ≡ s.lanes
      → file ≡ file_text front p.read.lines → ¬ (reply ≡ reply_text p.read.shown)
      → (line : ℕ) × (whole ≡ Err (Malformed part.Reply line))
  unfolding ends_judged
  no_reply_end (Ok over) is all text none = absurd (none (reply_over p over all is))
  no_reply_end (Err line) is all text none =
      let over = file_end p text in (
        line,
        ends_are p all ∙ read_found part.Board (end_at p.rests.0)
            (λ over. in_part part.Reply (end_at p.rests.1) >>= λ end. Ok tt) (tt, over.0) over.1
            ∙ ap (λ r. in_part part.Reply r >>= λ (end : Unit {0} × Rest). Ok tt) is,
      )

pub stop_is : {X : Type 0} (r : Result X ℕ) (line : ℕ) → result_err r ≡ Some line → r ≡ Err line
stop_is (Ok read) line stop = cc
stop_is (Err other) line stop = ap (λ l. Err l) (same_Some other line stop)

less_or_all : (lanes most : ℕ) → lanes ≤ most → (lanes < most) ⊎ (lanes ≡ most)
less_or_all lanes most within = elim (cases_lt lanes most) [
  | inl less ↦ inl less
  | inr all ↦ inr (omega (arith, all, within))
]

-- ---- each fault

module _ (s : StatementValue) (is : IsStatement s) (front file challenge reply : List ℕ) (rest : Rest)
    (at : file ≡ front ++ rest.left)
    (IsFaultLine : ℕ → Type 0) (told : (line : ℕ) → lanes_and_end_at s rest ≡ Err line → IsFaultLine line)
    (tells : (line : ℕ) → IsFaultLine line → lanes_and_end_at s rest ≡ Err line) where
  abbrev all_judged : Result (Unit {0}) Fault
  all_judged = behind_judged s rest (from_start challenge) (from_start reply)

  abbrev Holds : Fault → Type 0
  Holds fault = FaultHolds s front IsFaultLine fault file challenge reply

  holds : (fault : Fault) → all_judged ≡ Err fault → Holds fault
  holds fault stop = fault_holds s is front file challenge reply rest at IsFaultLine told fault stop

  challenge_is : (bits : Challenge) → IsOfChallenge challenge bits
      → (after : Rest) × (challenge_at (from_start challenge) ≡ Ok (bits, after))
  challenge_is bits right = challenge_is_whole.found (from_start challenge) bits right.right
      right.text

  lane_given : (lane : ℕ) (reason : LaneFault) (fault : Fault)
      → LaneFails s front file challenge reply lane reason
      → lane_fault lane (Err reason) ≡ Err fault → all_judged ≡ Err fault
  lane_given lane reason fault fails same =
      let pass = fails.before in
      let H : ℕ → Type 0 = λ n. HasLaneFault s.plan (case_of s n fails.next)
      (bit_of pass.challenge n) fails.shown reason in
      let V : ℕ → Type 0 = λ n. lane_fault n (Err reason) ≡ Err fault in
      next_fails (passed is rest at pass) reason fault fails.next fails.shown
      (omega (arith, fails.is_next, fails.within)) fails.in_file fails.in_reply
      (subst H fails.is_next fails.has_fault) (subst V fails.is_next same)

  file_stopped : FileStops s front file challenge reply
      → (line : ℕ) × (all_judged ≡ Err (Malformed part.Board line))
  file_stopped stops =
      let p = passed is rest at stops.before in
      elim (less_or_all stops.lanes s.lanes stops.before.within) [
        | inl less ↦ no_next_lines p (lines_next p) refl less (stops.lane less)
        | inr all ↦ no_file_end p (end_at p.rests.0) refl all (stops.over all)
      ]

  -- which line, is told by the form
  file_given : (line : ℕ) → IsFaultLine line → FileStops s front file challenge reply
      → all_judged ≡ Err (Malformed part.Board line)
  file_given line fault stops =
      let found = file_stopped stops in
      let there = holds (Malformed part.Board found.0) found.1 in
      found.1 ∙ ap (λ l. Err (Malformed part.Board l))
      (err_same {X = List LaneLines × Rest} found.0 line
      (sym (tells found.0 there.0) ∙ tells line fault))

  challenge_given : (line : ℕ) → Holds (Malformed part.Challenge line)
      → all_judged ≡ Err (Malformed part.Challenge line)
  unfolding behind_judged
  challenge_given line fault =
      ap (λ r. in_part part.Challenge r >>= bits_then s rest (from_start reply))
      (stop_is (challenge_at (from_start challenge)) line (sym (challenge_fault challenge) ∙ fault))

  -- the numbers of lanes
  counted_by : (bits : Challenge) (replies : ℕ) (same : Bool) → counts s.lanes bits replies ≡ same
      → ¬ ((length bits.bits ≡ s.lanes) × (replies ≡ s.lanes))
      → counted s.lanes bits replies ≡ Err Lanes
  counted_by bits replies false test differ = ap (λ (t : Bool). if t then Ok tt else Err Lanes) test
  counted_by bits replies true test differ =
      let both = and_parts (length bits.bits == s.lanes) (replies == s.lanes) test in
      absurd (differ (eqb-true (length bits.bits) s.lanes both.0, eqb-true replies s.lanes both.1))

  lanes_given : LanesFail s challenge reply → all_judged ≡ Err Lanes
  unfolding behind_judged
  lanes_given fails =
      let bits = challenge_is fails.challenge fails.is_challenge in
      let has = fails.has_count in
      let count = replies.head_is_part.found (from_start reply) fails.replies has.begins.0
      (has.count.least, has.count.most) has.begins.1 in
      let after : Rest = record { taken = count.0; left = has.begins.0 } in
      read_found part.Challenge (challenge_at (from_start challenge))
      (bits_then s rest (from_start reply))
      (fails.challenge, bits.0) bits.1
      ∙ (read_found part.Reply (reply_head_at (from_start reply))
      (reply_then s rest (fails.challenge, bits.0))
      (fails.replies, after) count.1
      ∙ ap (λ r. r >>= λ (same : Unit {0}). lanes_then s rest (fails.challenge, bits.0)
      (fails.replies, after))
      (counted_by fails.challenge fails.replies (counts s.lanes fails.challenge fails.replies) refl
      fails.differ))

  -- ---- the reply

  reply_stopped : ReplyStops s front file challenge reply
      → (line : ℕ) × (all_judged ≡ Err (Malformed part.Reply line))
  reply_stopped stops =
      let p = passed is rest at stops.before in
      elim (less_or_all stops.lanes s.lanes stops.before.within) [
        | inl less ↦ let there = stops.lane less in
            no_next_shown p (shown_next p) refl less there.0.0 there.0.1 there.1
        | inr all ↦ let there = stops.over all in
            no_reply_end p (end_at p.rests.1) refl all there.0 there.1
      ]

  count_read : (r : Result (ℕ × Rest) ℕ) → reply_head_at (from_start reply) ≡ r
      → ((lanes : ℕ) → ¬ HasCount reply lanes)
      → (line : ℕ) × (reply_head_at (from_start reply) ≡ Err line)
  count_read (Ok count) read none = absurd (none count.0 (has_count reply count.0 count.1 read))
  count_read (Err line) read none = (line, read)

  reply_fault_there : (line : ℕ) → ReplyFails s front file challenge reply line
      → (found : ℕ) × (all_judged ≡ Err (Malformed part.Reply found))
  unfolding behind_judged
  reply_fault_there line fails = elim fails.place [
    | inl none ↦
        let bits = challenge_is fails.challenge fails.is_challenge in
        let stop = count_read (reply_head_at (from_start reply)) refl none in (
          stop.0,
          read_found part.Challenge (challenge_at (from_start challenge))
              (bits_then s rest (from_start reply))
              (fails.challenge, bits.0) bits.1
              ∙ ap (λ r. in_part part.Reply r >>= reply_then s rest (fails.challenge, bits.0))
              stop.1,
        )
    | inr stops ↦ reply_stopped stops
  ]

  reply_one : (line other : ℕ) → ReplyFails s front file challenge reply line
      → ReplyFails s front file challenge reply other → line ≡ other
  reply_one line other fails there =
      let bits = challenge_is fails.challenge fails.is_challenge in
      let other_bits = challenge_is there.challenge there.is_challenge in
      let same : fails.challenge ≡ there.challenge = ap (λ p. p.0)
      (value_same (fails.challenge, bits.0) (there.challenge, other_bits.0)
      (sym bits.1 ∙ other_bits.1)) in
      same_Some line other (sym fails.fault
      ∙ (ap (λ (c : Challenge). fault_line (reply_table s.plan.kinds (bit_of c)) reply) same
      ∙ there.fault))

  reply_given : (line : ℕ) → ReplyFails s front file challenge reply line
      → all_judged ≡ Err (Malformed part.Reply line)
  reply_given line fails =
      let found = reply_fault_there line fails in
      found.1 ∙ ap (λ l. Err (Malformed part.Reply l))
      (reply_one found.0 line (holds (Malformed part.Reply found.0) found.1) fails)

  pub fault_given : (fault : Fault) → Holds fault → all_judged ≡ Err fault
  fault_given (Malformed part.Board line) says = file_given line says.0 says.1
  fault_given (Malformed part.Challenge line) says = challenge_given line says
  fault_given (Malformed part.Reply line) says = reply_given line says
  fault_given (Malformed part.SecondChallenge line) says = absurd says
  fault_given (Malformed part.SecondReply line) says = absurd says
  fault_given Lanes says = lanes_given says
  fault_given (Wire lane wire fault) says =
      lane_given lane (faults.Wire wire fault) (Wire lane wire fault) says refl
  fault_given (Row lane row) says = lane_given lane (faults.Row row) (Row lane row) says refl

pub behind_is_exact : BehindIsExact
behind_is_exact s is front file challenge reply rest at =
    let Line : ℕ → Type 0 = λ line. lanes_and_end_at s rest ≡ Err line in (
      accepted_behind s is front file challenge reply rest at,
      λ fault. (
        λ stop. fault_holds s is front file challenge reply rest at Line (λ line is. is) fault stop,
        λ says. fault_given s is front file challenge reply rest at Line (λ line is. is)
            (λ line is. is) fault says,
      ),
    )
