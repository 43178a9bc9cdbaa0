-- The lanes that are read from both files and accepted: their values, their texts, and what stands
-- next.
use Rattle.std.proofs.Common.{◌≡◌, ℕ, suc, ◌+◌, ◌-◌, ◌^◌, ◌<◌, ◌≤◌, Bool, false, List, [], ◌++◌, length, take, drop, codes, Result, Ok, Err, refl, ap, sym, ◌∙◌, subst, arith, append_assoc}
use Rattle.std.specs.Prelude.{slice_index_or}
use Rattle.std.proofs.Math.Seq.{drop-cons}
use Rattle.std.proofs.Math.ListN.{drop_of_length-le}
use Rattle.std.proofs.lemmas.List.{append_cancel_left, length-take-le}
use Rattle.std.proofs.lemmas.List.Elements.{All-from_recursion}
use Rattle.std.proofs.lemmas.Option.{slice_get-get_or}
use Rattle.vk_residue.specs.Steps.{◌>>=◌}
use Rattle.vk_lines.specs.Lines.{Rest, end_at}
use Rattle.vk_lines.specs.Forms.{IsPart, line, many_at, numbered_text}
use Rattle.vk_lines.proofs.Each.{at_from_each, each_from_at}
use Rattle.vk_lines.proofs.Numbered.{numbered_part, numbered_all}
use Rattle.vk_lines.proofs.Parts.{part_same, end_found, end_shown}
use Rattle.vk_wire.specs.declared.wire.Shown.{Shown}
use Rattle.vk_row.specs.declared.case.LaneCase.{LaneCase}
use Rattle.vk_row.specs.Lanes.{HasCounts, IsAccepted}
use Rattle.vk_row.proofs.Whole.{ok_accepted, accepted_ok}
use Rattle.vk_board.specs.declared.board.LaneLines.{LaneLines}
use Rattle.vk_board.specs.Values.{IsLaneLines}
use Rattle.vk_board.specs.Texts.{lane_text, lanes_text}
use Rattle.vk_board.specs.Reading.{lane_at}
use Rattle.vk_board.proofs.Forms.{lane_is_part}
use Rattle.vk_reply.specs.declared.challenge.Challenge.{Challenge}
use Rattle.vk_reply.specs.Values.{AreShown}
use Rattle.vk_reply.specs.Texts.{reply_head_text, reply_lane_text, reply_text}
use Rattle.vk_reply.specs.Reading.{challenge_at, reply_head_at, reply_lane_at}
use Rattle.vk_reply.proofs.Challenges.{challenge_is_whole}
use Rattle.vk_reply.proofs.Replies as replies
use Rattle.vk_judge.specs.declared.answers.Fault.{Fault}
use Rattle.vk_judge.specs.Statement.{StatementValue, IsStatement}
use Rattle.vk_judge.specs.Behind.{case_of, later_wires, lane_judged, lanes_judged, ends_judged, behind_judged}
use Rattle.vk_judge.specs.Begun.{from_start}
use Rattle.vk_judge.specs.Acceptance.{bit_of, no_lines, AreLanes, LaneIsAccepted, file_text}
use Rattle.vk_judge.specs.Refusals.{IsOfChallenge, HasCount, AreShownFor, front_and_lanes, count_and_lanes, LanesPass, FileGoesOn, ReplyGoesOn}
use Rattle.vk_judge.proofs.Counts.{has_counts}
use Rattle.vk_judge.proofs.LaneLists.{next_lines, next_shown, IsChecked, LanesRead, lanes_found, taken_bits, lanes_split}
use Rattle.vk_judge.proofs.Files.{Begun, begun_judged, ends_then}

-- ---- lanes and their texts

small_lane : (lane : ℕ) → lane ≤ 64 → lane < 2 ^ 64
small_lane lane few = omega arith

lines_part : (s : StatementValue) (count : ℕ) → count ≤ 64
    → IsPart (λ lines. (length lines ≡ count) × AreLanes s lines) (lanes_text 1)
    (many_at count (next_lines s))
lines_part s count few =
    let wires : ℕ = later_wires s.plan in
    let rows : ℕ = length s.plan.rows in
    numbered_all {IsValue = IsLaneLines wires rows} {text = lane_text}
    {read = λ lane. lane_at lane wires rows} 64 count
    few (λ lane small. lane_is_part lane wires rows small)

same_lane : (s : StatementValue) (bits : Challenge) (one : List Shown) (m n : ℕ) → m ≡ n
    → AreShown s.plan.kinds (bit_of bits m) one → AreShown s.plan.kinds (bit_of bits n) one
same_lane s bits one m n same are =
    let A : ℕ → Type 0 = λ lane. AreShown s.plan.kinds (bit_of bits lane) one in
    subst A same are

from_first : (index : ℕ) → 0 + index + 1 ≡ index + 1
from_first index = omega arith

shown_part : (s : StatementValue) (bits : Challenge) (count : ℕ) → count ≤ 64
    → IsPart (λ shown. (length shown ≡ count) × AreShownFor s bits shown)
    (numbered_text reply_lane_text 1)
    (many_at count (next_shown s (bit_of bits)))
shown_part s bits count few =
    let L : ℕ → List Shown → Type 0 = λ lane one. AreShown s.plan.kinds (bit_of bits lane) one in
    part_same
    (numbered_part {IsValue = L} {text = reply_lane_text}
    {read = λ lane. reply_lane_at lane s.plan.kinds (bit_of bits lane)} 64 count few
    (λ lane small. replies.lane_is_part lane s.plan.kinds (bit_of bits lane)
    (small_lane lane small)))
    (λ shown is. (
      is.0,
      λ index one there.
          same_lane s bits one (0 + index + 1) (index + 1) (from_first index)
          (at_from_each (λ n. L (n + 1)) [] shown is.1 index one there),
    ))
    (λ shown is. (
      is.0,
      each_from_at (λ n. L (n + 1)) [] shown (λ index one there.
          same_lane s bits one (index + 1) (0 + index + 1) (sym (from_first index))
          (is.1 index one there)),
    ))
    (λ shown. refl)

begins_more : (bytes text part more rest : List ℕ) → bytes ≡ text ++ rest → rest ≡ part ++ more
    → bytes ≡ (text ++ part) ++ more
begins_more bytes text part more rest first next = first ∙ ap (λ r. text ++ r) next
    ∙ sym (append_assoc text part more)

-- what stands in a file after a text that it begins with
rest_is : (bytes text part more rest : List ℕ) → bytes ≡ text ++ rest
    → bytes ≡ (text ++ part) ++ more
    → rest ≡ part ++ more
rest_is bytes text part more rest first next = append_cancel_left text rest (part ++ more)
    (sym first ∙ next ∙ append_assoc text part more)

-- ---- the check of a lane, and what it says

module _ (s : StatementValue) (is : IsStatement s) (bits : Challenge) (lines : List LaneLines) (shown : List (List Shown)) where
  counts_at : (index : ℕ) → index < length lines → index < length shown → AreLanes s lines
      → AreShownFor s bits shown
      → HasCounts s.plan (case_of s (index + 1) (slice_index_or lines index no_lines))
      (slice_index_or shown index [])
  counts_at index within inside are each =
      has_counts s (index + 1) (bit_of bits (index + 1)) (slice_index_or lines index no_lines)
      (slice_index_or shown index []) is
      (All-from_recursion (IsLaneLines (later_wires s.plan) (length s.plan.rows)) lines are index
      no_lines within)
      (each index (slice_index_or shown index []) (slice_get-get_or shown index [] inside))

  abbrev AcceptedAt : ℕ → ℕ → Type 0
  AcceptedAt number index = IsAccepted s.plan
      (case_of s number (slice_index_or lines index no_lines))
      (bit_of bits number) (slice_index_or shown index [])

  pub accepted_at : (lane : ℕ) → 1 ≤ lane → lane ≤ length lines → lane ≤ length shown
      → AreLanes s lines
      → AreShownFor s bits shown
      → IsChecked s (bit_of bits) lines shown (lane - 1) → LaneIsAccepted s lines bits shown lane
  accepted_at lane some within inside are each check =
      let index : ℕ = lane - 1 in
      let number : index + 1 ≡ lane = omega (arith, some) in
      let counts = counts_at index (omega (arith, some, within)) (omega (arith, some, inside)) are
      each in
      let case : LaneCase = case_of s (index + 1) (slice_index_or lines index no_lines) in
      let here : AcceptedAt (index + 1) index = (
        check.0,
        ok_accepted s.plan case (bit_of bits (index + 1)) (slice_index_or shown index []) check.0
            is.plan
            counts check.1,
      ) in
      let P : ℕ → Type 0 = λ n. AcceptedAt n index in
      subst P number here

  pub checked_at : (index : ℕ) → LaneIsAccepted s lines bits shown (index + 1)
      → IsChecked s (bit_of bits) lines shown index
  checked_at index accepted =
      let here : index + 1 - 1 ≡ index = omega arith in
      let P : ℕ → Type 0 = λ i. AcceptedAt (index + 1) i in
      let at : AcceptedAt (index + 1) index = subst P here accepted in (
        at.0,
        accepted_ok s.plan (case_of s (index + 1) (slice_index_or lines index no_lines))
            (bit_of bits (index + 1))
            (slice_index_or shown index []) at.0 is.plan at.1,
      )

-- ---- so many lanes that were read, behind a front with this text

pub record Passed (s : StatementValue) (front file challenge reply : List ℕ) (rest : Rest) : Type 0
  where
    pub is : IsStatement s
    pub at : file ≡ front ++ rest.left
    pub begun : Begun s (from_start challenge) (from_start reply)
    pub count : ℕ
    pub within : count ≤ s.lanes
    pub rests : Rest × Rest
    pub read : LanesRead s (bit_of begun.bits) [] [] count rest begun.count_rest rests

pub is_challenge : (challenge : List ℕ) (bits : Challenge) (after : Rest)
    → challenge_at (from_start challenge) ≡ Ok (bits, after) → IsOfChallenge challenge bits
is_challenge challenge bits after read =
    let shown = challenge_is_whole.shown (from_start challenge) bits after read in
    record { right = shown.0; text = shown.1 }

pub has_count : (reply : List ℕ) (count : ℕ) (after : Rest)
    → reply_head_at (from_start reply) ≡ Ok (count, after)
    → HasCount reply count
has_count reply count after read =
    let shown = replies.head_is_part.shown (from_start reply) count after read in
    record {
      count = record { least = shown.0.0; most = shown.0.1 };
      begins = (after.left, shown.1);
    }

module _ {s : StatementValue} {front file challenge reply : List ℕ} {rest : Rest}
    (p : Passed s front file challenge reply rest) where
  few : p.count ≤ 64
  few = omega (arith, p.within, p.is.count.most)

  pub lines_are : ((length p.read.lines ≡ p.count) × AreLanes s p.read.lines)
      × (rest.left ≡ lanes_text 1 p.read.lines ++ p.rests.0.left)
  lines_are = (lines_part s p.count few).shown rest p.read.lines p.rests.0 p.read.board_read

  pub shown_are : ((length p.read.shown ≡ p.count) × AreShownFor s p.begun.bits p.read.shown)
      × (p.begun.count_rest.left ≡ numbered_text reply_lane_text 1 p.read.shown ++ p.rests.1.left)
  shown_are = (shown_part s p.begun.bits p.count few).shown p.begun.count_rest p.read.shown
      p.rests.1 p.read.reply_read

  pub file_is : file ≡ front_and_lanes front p.read.lines ++ p.rests.0.left
  file_is = begins_more file front (lanes_text 1 p.read.lines) p.rests.0.left rest.left p.at
      lines_are.1

  pub reply_is : reply ≡ count_and_lanes s.lanes p.read.shown ++ p.rests.1.left
  reply_is =
      begins_more reply (reply_head_text s.lanes) (numbered_text reply_lane_text 1 p.read.shown)
      p.rests.1.left
      p.begun.count_rest.left
      (replies.head_is_part.shown (from_start reply) s.lanes p.begun.count_rest
      p.begun.count_read).1 shown_are.1

  abbrev pub lanes_pass : LanesPass s front file challenge reply p.count
  lanes_pass = record {
    lines = p.read.lines;
    challenge = p.begun.bits;
    reply = p.read.shown;
    is_challenge = is_challenge challenge p.begun.bits p.begun.challenge_rest
        p.begun.challenge_read;
    one_bit_each = p.begun.one_bit_each;
    within = p.within;
    lines_to = lines_are.0.0;
    shown_to = shown_are.0.0;
    right = lines_are.0.1;
    shown = shown_are.0.1;
    file_begins = (p.rests.0.left, file_is);
    reply_begins = (p.rests.1.left, reply_is);
    accepted = λ lane some most.
        accepted_at s p.is p.begun.bits p.read.lines p.read.shown lane some
        (omega (arith, most, lines_are.0.0))
        (omega (arith, most, shown_are.0.0)) lines_are.0.1 shown_are.0.1
        (p.read.checked (lane - 1) (omega arith) (omega (arith, some, most)));
  }

  -- ---- the next lane in the file, and in the reply

  abbrev pub next_bit : Bool
  next_bit = bit_of p.begun.bits (p.count + 1)

  abbrev pub lines_next : Result (LaneLines × Rest) ℕ
  lines_next = lane_at (p.count + 1) (later_wires s.plan) (length s.plan.rows) p.rests.0

  abbrev pub shown_next : Result (List Shown × Rest) ℕ
  shown_next = reply_lane_at (p.count + 1) s.plan.kinds next_bit p.rests.1

  next_few : p.count < s.lanes → p.count + 1 ≤ 64
  next_few more = omega (arith, more, p.is.count.most)

  next_lines_part : p.count < s.lanes
      → IsPart (IsLaneLines (later_wires s.plan) (length s.plan.rows)) (lane_text (p.count + 1))
      (lane_at (p.count + 1) (later_wires s.plan) (length s.plan.rows))
  next_lines_part more = lane_is_part (p.count + 1) (later_wires s.plan) (length s.plan.rows)
      (next_few more)

  next_shown_part : p.count < s.lanes
      → IsPart (AreShown s.plan.kinds next_bit) (reply_lane_text (p.count + 1))
      (reply_lane_at (p.count + 1) s.plan.kinds next_bit)
  next_shown_part more = replies.lane_is_part (p.count + 1) s.plan.kinds next_bit
      (small_lane (p.count + 1) (next_few more))

  pub file_goes_on : (lines : LaneLines) (after : Rest) → p.count < s.lanes
      → lines_next ≡ Ok (lines, after)
      → FileGoesOn s front file p.read.lines lines
  file_goes_on lines after more read =
      let shown = (next_lines_part more).shown p.rests.0 lines after read in
      record {
        right = shown.0;
        begins = (
          after.left,
          begins_more file (front_and_lanes front p.read.lines)
              (lane_text (length p.read.lines + 1) lines) after.left
              p.rests.0.left file_is
              (shown.1 ∙ ap (λ n. lane_text (n + 1) lines ++ after.left) (sym lines_are.0.0)),
        );
      }

  pub file_found : (lines : LaneLines) → p.count < s.lanes
      → FileGoesOn s front file p.read.lines lines
      → (after : Rest) × (lines_next ≡ Ok (lines, after))
  file_found lines more goes_on =
      let left : p.rests.0.left ≡ lane_text (p.count + 1) lines ++ goes_on.begins.0 =
      rest_is file (front_and_lanes front p.read.lines) (lane_text (length p.read.lines + 1) lines)
      goes_on.begins.0
      p.rests.0.left file_is goes_on.begins.1
      ∙ ap (λ n. lane_text (n + 1) lines ++ goes_on.begins.0) lines_are.0.0 in
      let found = (next_lines_part more).found p.rests.0 lines goes_on.begins.0 goes_on.right left
      in
      (record { taken = found.0; left = goes_on.begins.0 }, found.1)

  pub reply_goes_on : (shown : List Shown) (after : Rest) → p.count < s.lanes
      → shown_next ≡ Ok (shown, after)
      → ReplyGoesOn s reply p.begun.bits p.read.shown shown
  reply_goes_on shown after more read =
      let is = (next_shown_part more).shown p.rests.1 shown after read in
      let A : ℕ → Type 0 = λ n. AreShown s.plan.kinds (bit_of p.begun.bits (n + 1)) shown in
      record {
        right = subst A (sym shown_are.0.0) is.0;
        begins = (
          after.left,
          begins_more reply (count_and_lanes s.lanes p.read.shown)
              (reply_lane_text (length p.read.shown + 1) shown)
              after.left p.rests.1.left reply_is
              (is.1 ∙ ap (λ n. reply_lane_text (n + 1) shown ++ after.left) (sym shown_are.0.0)),
        );
      }

  pub reply_found : (shown : List Shown) → p.count < s.lanes
      → ReplyGoesOn s reply p.begun.bits p.read.shown shown
      → (after : Rest) × (shown_next ≡ Ok (shown, after))
  reply_found shown more goes_on =
      let left : p.rests.1.left ≡ reply_lane_text (p.count + 1) shown ++ goes_on.begins.0 =
      rest_is reply (count_and_lanes s.lanes p.read.shown)
      (reply_lane_text (length p.read.shown + 1) shown)
      goes_on.begins.0 p.rests.1.left reply_is goes_on.begins.1
      ∙ ap (λ n. reply_lane_text (n + 1) shown ++ goes_on.begins.0) shown_are.0.0 in
      let A : ℕ → Type 0 = λ n. AreShown s.plan.kinds (bit_of p.begun.bits (n + 1)) shown in
      let found = (next_shown_part more).found p.rests.1 shown goes_on.begins.0
      (subst A shown_are.0.0 goes_on.right) left in
      (record { taken = found.0; left = goes_on.begins.0 }, found.1)

  -- what is shown of it has the counts that its check asks for
  pub next_counts : (lines : LaneLines) (shown : List Shown) (next after : Rest) → p.count < s.lanes
      → lines_next ≡ Ok (lines, next) → shown_next ≡ Ok (shown, after)
      → HasCounts s.plan (case_of s (p.count + 1) lines) shown
  next_counts lines shown next after more lines_read shown_read =
      has_counts s (p.count + 1) next_bit lines shown p.is
      ((next_lines_part more).shown p.rests.0 lines next lines_read).0
      ((next_shown_part more).shown p.rests.1 shown after shown_read).0

  -- ---- the ends, where they are all lanes

  pub file_over : (over : Unit {0} × Rest) → end_at p.rests.0 ≡ Ok over
      → file ≡ file_text front p.read.lines
  file_over over read =
      file_is ∙ ap (λ left. front_and_lanes front p.read.lines ++ left)
      (end_shown p.rests.0 over.0 over.1 read)
      ∙ append_assoc front (lanes_text 1 p.read.lines) (line (codes "end"))

  pub file_end : file ≡ file_text front p.read.lines
      → (after : Rest) × (end_at p.rests.0 ≡ Ok (tt, after))
  file_end text =
      end_found p.rests.0 (append_cancel_left (front_and_lanes front p.read.lines) p.rests.0.left
      (line (codes "end"))
      (sym file_is ∙ text ∙ sym
      (append_assoc front (lanes_text 1 p.read.lines) (line (codes "end")))))

  whole_reply : p.count ≡ s.lanes
      → reply_text p.read.shown ≡ count_and_lanes s.lanes p.read.shown ++ line (codes "end")
  unfolding reply_text
  whole_reply all =
      let rest_text : List ℕ = numbered_text reply_lane_text 1 p.read.shown in
      ap (λ n. reply_head_text n ++ (rest_text ++ line (codes "end"))) (shown_are.0.0 ∙ all)
      ∙ sym (append_assoc (reply_head_text s.lanes) rest_text (line (codes "end")))

  pub reply_over : (over : Unit {0} × Rest) → p.count ≡ s.lanes → end_at p.rests.1 ≡ Ok over
      → reply ≡ reply_text p.read.shown
  reply_over over all read = reply_is
      ∙ ap (λ left. count_and_lanes s.lanes p.read.shown ++ left)
      (end_shown p.rests.1 over.0 over.1 read)
      ∙ sym (whole_reply all)

  pub reply_end : p.count ≡ s.lanes → reply ≡ reply_text p.read.shown
      → (after : Rest) × (end_at p.rests.1 ≡ Ok (tt, after))
  reply_end all text =
      end_found p.rests.1 (append_cancel_left (count_and_lanes s.lanes p.read.shown) p.rests.1.left
      (line (codes "end"))
      (sym reply_is ∙ text ∙ whole_reply all))

  -- ---- what is judged behind the front is what is judged behind these lanes

  abbrev pub all_judged : Result (Unit {0}) Fault
  all_judged = behind_judged s rest (from_start challenge) (from_start reply)

  some_bits : p.count ≤ length p.begun.bits.bits
  some_bits = omega (arith, p.within, p.begun.one_bit_each)

  judged_on : all_judged
      ≡ (lanes_judged s (1 + p.count) (drop p.count p.begun.bits.bits) p.rests.0 p.rests.1 >>=
      ends_then)
  judged_on =
      let bits : List Bool = p.begun.bits.bits in
      let long : length (take p.count bits) ≡ p.count = length-take-le p.count bits some_bits in
      let L : ℕ → Type 0 = λ n. LanesRead s (bit_of p.begun.bits) [] [] n rest p.begun.count_rest
      p.rests in
      let passed = lanes_found s (bit_of p.begun.bits) [] [] (take p.count bits) rest
      p.begun.count_rest p.rests refl
      (taken_bits p.begun.bits p.count some_bits) (subst L (sym long) p.read) in
      begun_judged s rest (from_start challenge) (from_start reply) p.begun
      ∙ ap (λ r. r >>= ends_then)
      (lanes_split s 1 bits p.count rest p.begun.count_rest p.rests passed)

  pub lane_refused : (fault : Fault) → p.count < s.lanes
      → lane_judged s (p.count + 1) next_bit p.rests.0 p.rests.1 ≡ Err fault
      → all_judged ≡ Err fault
  unfolding lanes_judged
  lane_refused fault more stop =
      let bits : List Bool = p.begun.bits.bits in
      let inside : p.count < length bits = omega (arith, more, p.begun.one_bit_each) in
      let number : 1 + p.count ≡ p.count + 1 = omega arith in
      let index : p.count ≡ p.count + 1 - 1 = omega arith in
      let here : lane_judged s (1 + p.count) (slice_index_or bits p.count false) p.rests.0 p.rests.1
      ≡ Err fault =
      ap (λ n. lane_judged s n (slice_index_or bits p.count false) p.rests.0 p.rests.1) number
      ∙ (ap (λ i. lane_judged s (p.count + 1) (slice_index_or bits i false) p.rests.0 p.rests.1)
      index ∙ stop) in
      judged_on
      ∙ (ap (λ bs. lanes_judged s (1 + p.count) bs p.rests.0 p.rests.1 >>= ends_then)
      (drop-cons bits p.count false inside)
      ∙ ap (λ r. r >>= (λ r. lanes_judged s (1 + p.count + 1) (drop (suc p.count) bits) r.0 r.1) >>=
      ends_then) here)

  pub ends_are : p.count ≡ s.lanes → all_judged ≡ ends_judged p.rests.0 p.rests.1
  unfolding lanes_judged
  ends_are all =
      let past : length p.begun.bits.bits ≤ p.count = omega (arith, all, p.begun.one_bit_each) in
      judged_on ∙ ap (λ bs. lanes_judged s (1 + p.count) bs p.rests.0 p.rests.1 >>= ends_then)
      (drop_of_length-le p.begun.bits.bits past)

-- ---- and back: lanes that pass are read

module _ {s : StatementValue} {front file challenge reply : List ℕ} {lanes : ℕ} (is : IsStatement s) (rest : Rest)
    (at : file ≡ front ++ rest.left) (pass : LanesPass s front file challenge reply lanes) where
  pass_few : lanes ≤ 64
  pass_few = omega (arith, pass.within, is.count.most)

  pub bits_found : (after : Rest)
      × (challenge_at (from_start challenge) ≡ Ok (pass.challenge, after))
  bits_found = challenge_is_whole.found (from_start challenge) pass.challenge
      pass.is_challenge.right pass.is_challenge.text

  abbrev shown_left : List ℕ
  shown_left = numbered_text reply_lane_text 1 pass.reply ++ pass.reply_begins.0

  pub count_found : (taken : ℕ)
      × (reply_head_at (from_start reply)
      ≡ Ok (s.lanes, record { taken = taken; left = shown_left }))
  count_found =
      replies.head_is_part.found (from_start reply) s.lanes shown_left
      (is.count.least, is.count.most)
      (pass.reply_begins.1 ∙ append_assoc (reply_head_text s.lanes)
      (numbered_text reply_lane_text 1 pass.reply)
      pass.reply_begins.0)

  abbrev begun : Begun s (from_start challenge) (from_start reply)
  begun = record {
    bits = pass.challenge;
    challenge_rest = bits_found.0;
    count_rest = record { taken = count_found.0; left = shown_left };
    challenge_read = bits_found.1;
    count_read = count_found.1;
    one_bit_each = pass.one_bit_each;
  }

  pub lines_found : (taken : ℕ) × (many_at lanes (next_lines s) rest
      ≡ Ok (pass.lines, record { taken = taken; left = pass.file_begins.0 }))
  lines_found =
      (lines_part s lanes pass_few).found rest pass.lines pass.file_begins.0
      (pass.lines_to, pass.right)
      (rest_is file front (lanes_text 1 pass.lines) pass.file_begins.0 rest.left at
      pass.file_begins.1)

  pub shown_found : (taken : ℕ)
      × (many_at lanes (next_shown s (bit_of pass.challenge)) begun.count_rest
      ≡ Ok (pass.reply, record { taken = taken; left = pass.reply_begins.0 }))
  shown_found = (shown_part s pass.challenge lanes pass_few).found begun.count_rest pass.reply
      pass.reply_begins.0
      (pass.shown_to, pass.shown) refl

  abbrev pub passed : Passed s front file challenge reply rest
  passed = record {
    is = is;
    at = at;
    begun = begun;
    count = lanes;
    within = pass.within;
    rests = (
      record { taken = lines_found.0; left = pass.file_begins.0 },
      record { taken = shown_found.0; left = pass.reply_begins.0 },
    );
    read = record {
      lines = pass.lines;
      shown = pass.reply;
      board_read = lines_found.1;
      reply_read = shown_found.1;
      checked = λ index low high. checked_at s is pass.challenge pass.lines pass.reply index
          (pass.accepted (index + 1) (omega arith) (omega (arith, high)));
    };
  }
