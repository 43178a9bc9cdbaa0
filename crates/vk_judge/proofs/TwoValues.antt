-- What two accepted replies give behind a front.
use Rattle.std.proofs.Common.{◌≡◌, ℕ, zero, suc, ◌+◌, ◌-◌, ◌<◌, Bool, List, [], ◌∷◌, ◌++◌, length, Some, Result, Ok, refl, ap, sym, ◌∙◌, subst, arith}
use Rattle.std.specs.Prelude.{slice_index_or, slice_get}
use Rattle.vk_residue.specs.Steps.{◌>>=◌}
use Rattle.vk_lines.specs.Lines.{Rest}
use Rattle.vk_lines.specs.Forms.{many_onto}
use Rattle.vk_plan.specs.Plans.{PlanValue}
use Rattle.vk_wire.specs.declared.wire.Shown.{Shown}
use Rattle.vk_row.specs.declared.case.LaneCase.{LaneCase}
use Rattle.vk_row.specs.LaneTests.{checked_lane}
use Rattle.vk_board.specs.declared.board.LaneLines.{LaneLines}
use Rattle.vk_board.specs.Reading.{lane_at}
use Rattle.vk_reply.specs.declared.challenge.Challenge.{Challenge}
use Rattle.vk_reply.specs.Reading.{challenge_at, reply_head_at, reply_lane_at}
use Rattle.vk_judge.specs.declared.answers.Part.TheVariants as part
use Rattle.vk_judge.specs.declared.answers.Fault.{Fault}
use Rattle.vk_judge.specs.declared.stage.TwoLane.{TwoLane}
use Rattle.vk_judge.specs.declared.stage.Finding.{Finding}
use Rattle.vk_judge.specs.Statement.{StatementValue, IsStatement}
use Rattle.vk_judge.specs.Behind.{in_part, later_wires, case_of, lane_fault, counted, behind_judged}
use Rattle.vk_judge.specs.Begun.{from_start}
use Rattle.vk_judge.specs.Parts.{case_at, reply_judged, attempt_at, rest_judged}
use Rattle.vk_judge.specs.Two.{Ahead, Rests, BothAreAccepted, accepted_of, two_result, of_first, of_second, both_shown, second_shown, lane_shown, two_lane_at, ahead_from, ahead_after, ahead_behind, with_lane, base_behind, second_begun, ahead_by, base_in}
use Rattle.vk_judge.specs.TwoLaw.{bits_read}
use Rattle.vk_judge.specs.Acceptance.{AcceptsBehind, bit_of, no_lines}
use Rattle.vk_judge.specs.TwoValues.{base_with, GivesBehind, AcceptedBehindGive, OnlyAcceptedBehind}
use Rattle.vk_judge.proofs.Steps.{read_found, value_same}
use Rattle.vk_judge.proofs.Many.{many_first, many_keeps}
use Rattle.vk_judge.proofs.LaneLists.{next_lines, next_shown, IsChecked, AreBits, bits_are, first_bit, later_bits, more}
use Rattle.vk_judge.proofs.Files.{counted_found}
use Rattle.vk_judge.proofs.Accepted.{accepted_read, accepted_behind}
use Rattle.vk_judge.proofs.Passed.{Passed}
use Rattle.vk_judge.proofs.TwoLaw.{finds_by_judging}

-- ---- one lane

case_found : (s : StatementValue) (number : ℕ) (file : Rest) (lines : LaneLines) (next : Rest)
    → lane_at number (later_wires s.plan) (length s.plan.rows) file ≡ Ok (lines, next)
    → case_at s number file ≡ Ok (case_of s number lines, next)
unfolding case_at
case_found s number file lines next read =
    read_found part.Board (lane_at number (later_wires s.plan) (length s.plan.rows) file)
    (λ lines. Ok (case_of s number lines.0, lines.1)) (lines, next) read

reply_found : (plan : PlanValue) (case : LaneCase) (number : ℕ) (bit : Bool) (reply : Rest)
    (shown : List Shown)
    (next : Rest) (halves : List ℕ)
    → reply_lane_at number plan.kinds bit reply ≡ Ok (shown, next)
    → checked_lane plan case bit shown ≡ Ok halves
    → reply_judged plan case number bit reply ≡ Ok (shown, next)
unfolding reply_judged
reply_found plan case number bit reply shown next halves read checked =
    read_found part.Reply (reply_lane_at number plan.kinds bit reply)
    (λ shown. lane_fault number (checked_lane plan case bit shown.0) >>= λ done.
    Ok (shown.0, shown.1)) (shown, next) read
    ∙ ap (λ c. lane_fault number c >>= λ done. Ok (shown, next)) checked

lane_given : (s : StatementValue) (number : ℕ) (first_bit second_bit : Bool) (later : List Bool)
    (rests : Rests)
    (case : LaneCase × Rest) (first second : List Shown × Rest)
    → case_at s number rests.file ≡ Ok case
    → reply_judged s.plan case.0 number first_bit rests.first ≡ Ok first
    → reply_judged s.plan case.0 number second_bit rests.second ≡ Ok second
    → two_lane_at s number first_bit second_bit later rests
    ≡ Ok (lane_shown first_bit second_bit case first second)
unfolding two_lane_at
lane_given s number first_bit second_bit later rests case first second case_is first_is second_is =
    ap (λ r. of_first r >>= both_shown s number first_bit second_bit later rests) case_is
    ∙ (ap (λ r. of_first r >>= second_shown s number first_bit second_bit later rests case) first_is
    ∙ ap (λ r. of_second (rest_judged s (number + 1) later case.1 first.1) r >>=
    λ t. Ok (lane_shown first_bit second_bit case first t)) second_is)

-- ---- the lanes, by the values that were read

module _ (s : StatementValue) (first_of second_of : ℕ → Bool) (lines : List LaneLines) (shown others : List (List Shown)) where
  -- the lane of that number, by what stands at that index
  abbrev lane_with : ℕ → ℕ → TwoLane
  lane_with number index = record {
    case = case_of s number (slice_index_or lines index no_lines);
    first_bit = first_of number;
    first = slice_index_or shown index [];
    second_bit = second_of number;
    second = slice_index_or others index [];
  }

  -- every lane of both replies is checked
  record AreChecked (total : ℕ) : Type 0 where
    first : (index : ℕ) → index < total → IsChecked s first_of lines shown index
    second : (index : ℕ) → index < total → IsChecked s second_of lines others index

  -- so many lanes after these are read, of the file and of both replies
  record AreRead (before : List LaneLines) (earlier last : List (List Shown)) (count : ℕ)
      (rests ends : Rests) : Type 0 where
    first_same : length earlier ≡ length before
    second_same : length last ≡ length before
    file : many_onto before count (next_lines s) rests.file ≡ Ok (lines, ends.file)
    first : many_onto earlier count (next_shown s first_of) rests.first ≡ Ok (shown, ends.first)
    second : many_onto last count (next_shown s second_of) rests.second ≡ Ok (others, ends.second)

  -- after so many lanes these are given
  record AreGiven (before count : ℕ) (given : List TwoLane) : Type 0 where
    one_each : length given ≡ count
    each : (index : ℕ) (lane : TwoLane) → slice_get given index ≡ Some lane
        → lane ≡ lane_with (before + index + 1) (before + index)

  -- what the next lane gives, and what is read after it
  record NextRead (before : List LaneLines) (earlier last : List (List Shown)) (count : ℕ)
      (later : List Bool) (rests ends : Rests) : Type 0 where
    line : LaneLines
    show : List Shown
    other : List Shown
    next : Rests
    given : two_lane_at s (length before + 1) (first_of (length before + 1))
        (second_of (length before + 1)) later rests
        ≡ Ok (lane_with (length before + 1) (length before), next)
    after : AreRead (before ++ line ∷ []) (earlier ++ show ∷ []) (last ++ other ∷ []) count next
        ends

  next_read : (total : ℕ) (before : List LaneLines) (earlier last : List (List Shown)) (count : ℕ)
      (later : List Bool)
      (rests ends : Rests)
      → AreChecked total → length before < total
      → AreRead before earlier last (suc count) rests ends
      → NextRead before earlier last count later rests ends
  next_read total before earlier last count later rests ends checked within are =
      let index : ℕ = length before in
      let number : ℕ = length before + 1 in
      let line = many_first (next_lines s) before count rests.file lines ends.file are.file in
      let show = many_first (next_shown s first_of) earlier count rests.first shown ends.first
      are.first in
      let other = many_first (next_shown s second_of) last count rests.second others ends.second
      are.second in
      let line_at : slice_index_or lines index no_lines ≡ line.0 =
      many_keeps (next_lines s) before line.0 count line.1 lines ends.file no_lines line.3 in
      let show_at : slice_index_or shown index [] ≡ show.0 =
      ap (λ i. slice_index_or shown i []) (sym are.first_same)
      ∙ many_keeps (next_shown s first_of) earlier show.0 count show.1 shown ends.first []
      show.3 in
      let other_at : slice_index_or others index [] ≡ other.0 =
      ap (λ i. slice_index_or others i []) (sym are.second_same)
      ∙ many_keeps (next_shown s second_of) last other.0 count other.1 others ends.second []
      other.3 in
      let first = checked.first index within in
      let second = checked.second index within in
      let case : LaneCase = case_of s number (slice_index_or lines index no_lines) in
      record {
        line = line.0;
        show = show.0;
        other = other.0;
        next = record { file = line.1; first = show.1; second = other.1 };
        given = lane_given s number (first_of number) (second_of number) later rests (case, line.1)
            (slice_index_or shown index [], show.1) (slice_index_or others index [], other.1)
            (case_found s number rests.file (slice_index_or lines index no_lines) line.1
            (line.2 ∙ ap (λ l. Ok (l, line.1)) (sym line_at)))
            (reply_found s.plan case number (first_of number) rests.first
            (slice_index_or shown index []) show.1 first.0
            (ap (λ n. reply_lane_at (n + 1) s.plan.kinds (first_of (n + 1)) rests.first)
            (sym are.first_same) ∙ show.2 ∙ ap (λ s. Ok (s, show.1)) (sym show_at)) first.1)
            (reply_found s.plan case number (second_of number) rests.second
            (slice_index_or others index []) other.1 second.0
            (ap (λ n. reply_lane_at (n + 1) s.plan.kinds (second_of (n + 1)) rests.second)
            (sym are.second_same) ∙ other.2 ∙ ap (λ s. Ok (s, other.1)) (sym other_at))
            second.1);
        after = record {
          first_same = omega (arith, more earlier show.0, more before line.0, are.first_same);
          second_same = omega (arith, more last other.0, more before line.0, are.second_same);
          file = line.3;
          first = show.3;
          second = other.3;
        };
      }

  each_next : (before after : ℕ) (given : List TwoLane) → after ≡ before + 1
      → ((index : ℕ) (lane : TwoLane) → slice_get given index ≡ Some lane
      → lane ≡ lane_with (after + index + 1) (after + index))
      → (index : ℕ) (lane : TwoLane)
      → slice_get (lane_with (before + 1) before ∷ given) index ≡ Some lane
      → lane ≡ lane_with (before + index + 1) (before + index)
  each_next before after given next later zero lane is =
      let here : before ≡ before + zero = omega arith in
      let same : lane ≡ lane_with (before + 1) before = cc in
      same ∙ ap (λ i. lane_with (i + 1) i) here
  each_next before after given next later (suc index) lane is =
      let there : after + index ≡ before + suc index = omega (arith, next) in
      later index lane is ∙ ap (λ i. lane_with (i + 1) i) there

  given_from : (accepted : Finding Fault) (total : ℕ) (before : List LaneLines)
      (earlier last : List (List Shown)) (bits second_bits : List Bool) (rests ends : Rests)
      → AreChecked total → length before + length bits ≡ total → length second_bits ≡ length bits
      → AreBits first_of (length before) bits → AreBits second_of (length before) second_bits
      → AreRead before earlier last (length bits) rests ends
      → AreGiven (length before) (length bits)
      (ahead_from s accepted (length before + 1) bits second_bits rests).lanes
  unfolding ahead_from
  given_from accepted total before earlier last [] second_bits rests ends checked count same first
      second are = record { one_each = refl; each = λ index lane is. cc }
  given_from accepted total before earlier last (bit ∷ bits) [] rests ends checked count same first
      second are = cc
  given_from accepted total before earlier last (bit ∷ bits) (other ∷ second_bits) rests ends
      checked count same first second are =
      let number : ℕ = length before + 1 in
      let step = next_read total before earlier last (length bits) bits rests ends checked
      (omega (arith, count)) are in
      let after : List LaneLines = before ++ step.line ∷ [] in
      let long : length after ≡ number = more before step.line in
      let later = given_from accepted total after (earlier ++ step.show ∷ [])
      (last ++ step.other ∷ []) bits second_bits step.next ends checked
      (omega (arith, count, long)) (omega (arith, same))
      (later_bits first_of (length before) (length after) bit bits long first)
      (later_bits second_of (length before) (length after) other second_bits long second)
      step.after in
      let next : Rests → Ahead Fault = ahead_from s accepted (number + 1) bits second_bits in
      let is : ahead_from s accepted number (bit ∷ bits) (other ∷ second_bits) rests
      ≡ with_lane (lane_with number (length before))
      (ahead_from s accepted (length after + 1) bits second_bits step.next) =
      ap (λ b. ahead_after (two_lane_at s number b other bits rests) next)
      (sym (first_bit first_of (length before) bit bits first))
      ∙ (ap (λ o. ahead_after (two_lane_at s number (first_of number) o bits rests) next)
      (sym (first_bit second_of (length before) other second_bits second))
      ∙ (ap (λ r. ahead_after r next) step.given
      ∙ ap (λ n. with_lane (lane_with number (length before))
      (ahead_from s accepted (n + 1) bits second_bits step.next)) (sym long))) in
      let G : Ahead Fault → Type 0 =
      λ a. AreGiven (length before) (suc (length bits)) a.lanes in
      subst G (sym is) (record {
        one_each = ap (λ n. suc n) later.one_each;
        each = each_next (length before) (length after) _ long later.each;
      })

-- ---- before the first lane

attempt_found : (lanes : ℕ) (challenge reply : Rest) (bits : Challenge)
    (challenge_rest reply_rest : Rest)
    → challenge_at challenge ≡ Ok (bits, challenge_rest)
    → reply_head_at reply ≡ Ok (lanes, reply_rest)
    → length bits.bits ≡ lanes
    → attempt_at lanes challenge reply ≡ Ok (bits.bits, reply_rest)
unfolding attempt_at
attempt_found lanes challenge reply bits challenge_rest reply_rest challenge_read reply_read
    one_each =
    read_found part.Challenge (challenge_at challenge)
    (λ bits. in_part part.Reply (reply_head_at reply) >>= λ replies. counted lanes bits.0
    replies.0 >>= λ same. Ok (bits.0.bits, replies.1))
    (bits, challenge_rest) challenge_read
    ∙ (read_found part.Reply (reply_head_at reply)
    (λ replies. counted lanes bits replies.0 >>= λ same. Ok (bits.bits, replies.1))
    (lanes, reply_rest) reply_read
    ∙ ap (λ q. q >>= λ (same : Unit {0}). Ok (bits.bits, reply_rest))
    (counted_found lanes bits lanes one_each refl))

-- ---- behind a front

module _ (s : StatementValue) (is : IsStatement s) (front file first_challenge first_reply second_challenge second_reply : List ℕ) (rest : Rest) (at : file ≡ front ++ rest.left)
    (first : AcceptsBehind s front file first_challenge first_reply) (second : AcceptsBehind s front file second_challenge second_reply) where
  abbrev first_read : Passed s front file first_challenge first_reply rest
  first_read = accepted_read is rest at first

  abbrev second_read : Passed s front file second_challenge second_reply rest
  second_read = accepted_read is rest at second

  -- the lines of the file are read once
  one_file : ◌≡◌ {A = List LaneLines × Rest} (second.lines, second_read.rests.0)
      (first.lines, first_read.rests.0)
  one_file = value_same (second.lines, second_read.rests.0) (first.lines, first_read.rests.0)
      (sym second_read.read.board_read ∙ first_read.read.board_read)

  one_lines : second.lines ≡ first.lines
  one_lines = ap (λ p. p.0) one_file

  abbrev begun : Rests
  begun = record {
    file = rest;
    first = first_read.begun.count_rest;
    second = second_read.begun.count_rest;
  }

  abbrev ended : Rests
  ended = record {
    file = first_read.rests.0;
    first = first_read.rests.1;
    second = second_read.rests.1;
  }

  base_found : base_behind s rest (from_start first_challenge) (from_start first_reply)
      (from_start second_challenge) (from_start second_reply) ≡ Ok (base_with first second, begun)
  unfolding base_behind
  base_found =
      let one = attempt_found s.lanes (from_start first_challenge) (from_start first_reply)
      first.challenge first_read.begun.challenge_rest begun.first
      first_read.begun.challenge_read first_read.begun.count_read first.one_bit_each in
      let other = attempt_found s.lanes (from_start second_challenge) (from_start second_reply)
      second.challenge second_read.begun.challenge_rest begun.second
      second_read.begun.challenge_read second_read.begun.count_read second.one_bit_each in
      ap (λ r. of_first r >>= second_begun s rest (from_start second_challenge)
      (from_start second_reply)) one
      ∙ ap (λ r. of_second (rest_judged s 1 first.challenge.bits rest begun.first) r >>=
      λ (t : List Bool × Rest). Ok (
        record { statement = s; first_bits = first.challenge.bits; second_bits = t.0 },
        record { file = rest; first = begun.first; second = t.1 },
      )) other

  abbrev found : Finding Fault
  found = accepted_of first.challenge.bits second.challenge.bits

  checked : AreChecked s (bit_of first.challenge) (bit_of second.challenge) first.lines first.reply
      second.reply (length first.challenge.bits)
  checked = record {
    first = λ index within. first_read.read.checked index (omega arith)
        (omega (arith, within, first.one_bit_each));
    second = λ index within.
        let L : List LaneLines
        → Type 0 = λ lines. IsChecked s (bit_of second.challenge) lines second.reply index in
        subst L one_lines (second_read.read.checked index (omega arith)
        (omega (arith, within, first.one_bit_each)));
  }

  lanes_given : AreGiven s (bit_of first.challenge) (bit_of second.challenge) first.lines
      first.reply second.reply 0 (length first.challenge.bits)
      (ahead_from s found 1 first.challenge.bits second.challenge.bits begun).lanes
  lanes_given =
      given_from s (bit_of first.challenge) (bit_of second.challenge) first.lines first.reply
      second.reply found (length first.challenge.bits) [] [] []
      first.challenge.bits second.challenge.bits begun ended
      checked (omega arith) (second.one_bit_each ∙ sym first.one_bit_each)
      (bits_are first.challenge) (bits_are second.challenge)
      (record {
        first_same = refl;
        second_same = refl;
        file = ap (λ n. many_onto [] n (next_lines s) rest) first.one_bit_each
            ∙ first_read.read.board_read;
        first = ap (λ n. many_onto [] n (next_shown s (bit_of first.challenge)) begun.first)
            first.one_bit_each ∙ first_read.read.reply_read;
        second = ap (λ n. many_onto [] n (next_shown s (bit_of second.challenge)) begun.second)
            first.one_bit_each ∙ second_read.read.reply_read;
      })

  -- what is found is by judging each
  finding_is : (ahead_behind s rest (from_start first_challenge) (from_start first_reply)
      (from_start second_challenge) (from_start second_reply)).finding ≡ found
  finding_is =
      let c : Rest = from_start first_challenge in
      let d : Rest = from_start second_challenge in
      let judged : Rest → Rest → Result (Unit {0}) Fault = behind_judged s rest in
      let all : Result (Challenge × Rest) ℕ → Result (Challenge × Rest) ℕ
      → Result (Unit {0}) Fault → Result (Unit {0}) Fault → Finding Fault =
      λ one other. two_result (accepted_of (bits_read one) (bits_read other)) in
      finds_by_judging s rest c (from_start first_reply) d (from_start second_reply)
      ∙ (ap (λ j. all (challenge_at c) (challenge_at d) j (judged d (from_start second_reply)))
      ((accepted_behind s is front file first_challenge first_reply rest at).1 first)
      ∙ (ap (all (challenge_at c) (challenge_at d) (Ok tt))
      ((accepted_behind s is front file second_challenge second_reply rest at).1 second)
      ∙ (ap (λ one. all one (challenge_at d) (Ok tt) (Ok tt)) first_read.begun.challenge_read
      ∙ ap (λ other. all (Ok (first.challenge, first_read.begun.challenge_rest)) other (Ok tt)
      (Ok tt)) second_read.begun.challenge_read)))

  behind_given : GivesBehind first second
      (ahead_behind s rest (from_start first_challenge) (from_start first_reply)
      (from_start second_challenge) (from_start second_reply))
  behind_given =
      let A : List TwoLane → Type 0 =
      λ given. AreGiven s (bit_of first.challenge) (bit_of second.challenge) first.lines first.reply
      second.reply 0 (length first.challenge.bits) given in
      let lanes = subst A (sym (ap (λ b. (ahead_by b).lanes) base_found)) lanes_given in
      let lane : ℕ → ℕ → TwoLane =
      lane_with s (bit_of first.challenge) (bit_of second.challenge) first.lines first.reply
      second.reply in
      record {
        one_each = lanes.one_each ∙ first.one_bit_each;
        each = λ index one is.
            let number : 0 + index + 1 ≡ index + 1 = omega arith in
            let at : 0 + index ≡ index + 1 - 1 = omega arith in
            lanes.each index one is ∙ ap (λ n. lane n (0 + index)) number
            ∙ ap (λ i. lane (index + 1) i) at;
        finding = finding_is;
      }

pub accepted_behind_give : AcceptedBehindGive
accepted_behind_give s is front file first_challenge first_reply second_challenge second_reply rest
    at first second = (
      one_lines s is front file first_challenge first_reply second_challenge second_reply rest at first
          second,
      ap base_in (base_found s is front file first_challenge first_reply second_challenge second_reply
          rest at first second),
      behind_given s is front file first_challenge first_reply second_challenge second_reply rest at
          first second,
    )

both_passed : (accepted : Finding Fault) (first second : Result (Unit {0}) Fault)
    → BothAreAccepted (two_result accepted first second) → (first ≡ Ok tt) × (second ≡ Ok tt)
both_passed accepted (Ok done) (Ok over) are = (refl, refl)
both_passed accepted first second are = absurd are

pub only_accepted_behind : OnlyAcceptedBehind
only_accepted_behind s is front file first_challenge first_reply second_challenge second_reply rest
    at accepted =
    let c : Rest = from_start first_challenge in
    let r : Rest = from_start first_reply in
    let d : Rest = from_start second_challenge in
    let t : Rest = from_start second_reply in
    let both = both_passed (accepted_of (bits_read (challenge_at c)) (bits_read (challenge_at d)))
    (behind_judged s rest c r) (behind_judged s rest d t)
    (subst BothAreAccepted (finds_by_judging s rest c r d t) accepted) in (
      (accepted_behind s is front file first_challenge first_reply rest at).0 both.0,
      (accepted_behind s is front file second_challenge second_reply rest at).0 both.1,
    )
