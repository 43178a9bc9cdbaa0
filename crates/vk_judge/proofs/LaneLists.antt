-- The lanes that are judged one after another: their lines are read, and each is checked.
use Rattle.std.proofs.Common.{◌≡◌, ℕ, zero, suc, ◌+◌, ◌-◌, ◌<◌, ◌≤◌, Bool, false, List, [], ◌∷◌, ◌++◌, length, take, drop, Result, Ok, inl, inr, ap, sym, ◌∙◌, arith, subst, length-append}
use Rattle.std.specs.Prelude.{slice_index_or}
use Rattle.std.proofs.lemmas.Bool.{cases_eq}
use Rattle.std.proofs.lemmas.List.{get_or-take, length-take-le}
use Rattle.vk_residue.specs.Steps.{◌>>=◌}
use Rattle.vk_lines.specs.Lines.{Rest}
use Rattle.vk_lines.specs.Forms.{many_onto}
use Rattle.vk_wire.specs.declared.wire.Shown.{Shown}
use Rattle.vk_row.specs.LaneTests.{checked_lane}
use Rattle.vk_board.specs.declared.board.LaneLines.{LaneLines}
use Rattle.vk_board.specs.Reading.{lane_at}
use Rattle.vk_reply.specs.Reading.{reply_lane_at}
use Rattle.vk_judge.specs.Statement.{StatementValue}
use Rattle.vk_judge.specs.Behind.{case_of, later_wires, lane_judged, lanes_judged}
use Rattle.vk_reply.specs.declared.challenge.Challenge.{Challenge}
use Rattle.vk_judge.specs.Acceptance.{bit_of, no_lines}
use Rattle.vk_judge.proofs.Steps.{bind_ok, bind_found, value_same}
use Rattle.vk_judge.proofs.Many.{many_step, many_first, many_last, many_keeps}
use Rattle.vk_judge.proofs.Lanes.{LaneRead, lane_shown, lane_found}

-- the lane after these on the file, and in the reply
abbrev pub next_lines : StatementValue → List LaneLines → Rest → Result (LaneLines × Rest) ℕ
next_lines s before rest = lane_at (length before + 1) (later_wires s.plan) (length s.plan.rows)
    rest

abbrev pub next_shown : StatementValue → (ℕ → Bool) → List (List Shown) → Rest
    → Result (List Shown × Rest) ℕ
next_shown s bit_of before rest =
    reply_lane_at (length before + 1) s.plan.kinds (bit_of (length before + 1)) rest

-- what is shown of the lane, counted from 0, is checked
abbrev pub IsChecked : StatementValue → (ℕ → Bool) → List LaneLines → List (List Shown) → ℕ → Type 0
IsChecked s bit_of lines shown index =
    (halves : List ℕ)
    × (checked_lane s.plan (case_of s (index + 1) (slice_index_or lines index no_lines))
    (bit_of (index + 1)) (slice_index_or shown index []) ≡ Ok halves)

-- so many lanes after these were read, and are checked
pub record LanesRead (s : StatementValue) (bit_of : ℕ → Bool) (before : List LaneLines)
    (earlier : List (List Shown))
    (count : ℕ) (file reply : Rest) (rests : Rest × Rest) : Type 0 where
  pub lines : List LaneLines
  pub shown : List (List Shown)
  pub board_read : many_onto before count (next_lines s) file ≡ Ok (lines, rests.0)
  pub reply_read : many_onto earlier count (next_shown s bit_of) reply ≡ Ok (shown, rests.1)
  pub checked : (index : ℕ) → length before ≤ index → index < length before + count
      → IsChecked s bit_of lines shown index

-- these are the bits of the lanes after so many
abbrev pub AreBits : (ℕ → Bool) → ℕ → List Bool → Type 0
AreBits bit_of before bits = (index : ℕ) → index < length bits
    → bit_of (before + index + 1) ≡ slice_index_or bits index false

pub first_bit : (bit_of : ℕ → Bool) (before : ℕ) (bit : Bool) (bits : List Bool)
    → AreBits bit_of before (bit ∷ bits)
    → bit_of (before + 1) ≡ bit
first_bit bit_of before bit bits are =
    let here : before + 1 ≡ before + zero + 1 = omega arith in
    ap bit_of here ∙ are zero (omega arith)

pub later_bits : (bit_of : ℕ → Bool) (before after : ℕ) (bit : Bool) (bits : List Bool)
    → after ≡ before + 1
    → AreBits bit_of before (bit ∷ bits) → AreBits bit_of after bits
later_bits bit_of before after bit bits next are = λ index within.
    let here : after + index + 1 ≡ before + suc index + 1 = omega (arith, next) in
    ap bit_of here ∙ are (suc index) (omega (arith, within))

pub more : {X : Type 0} (before : List X) (x : X) → length (before ++ x ∷ []) ≡ length before + 1
more before x = omega (arith, length-append before (x ∷ []))

-- where what was read of a lane stands in the lists
record StandsAt (lines : List LaneLines) (shown : List (List Shown)) (index : ℕ) (one : LaneLines)
    (other : List Shown) : Type 0 where
  line : slice_index_or lines index no_lines ≡ one
  show : slice_index_or shown index [] ≡ other

same_check : (s : StatementValue) (bit_of : ℕ → Bool) (lines : List LaneLines)
    (shown : List (List Shown)) (index : ℕ)
    (one : LaneLines) (bit : Bool) (other : List Shown)
    → StandsAt lines shown index one other → bit_of (index + 1) ≡ bit
    → checked_lane s.plan (case_of s (index + 1) (slice_index_or lines index no_lines))
    (bit_of (index + 1))
    (slice_index_or shown index [])
    ≡ checked_lane s.plan (case_of s (index + 1) one) bit other
same_check s bit_of lines shown index one bit other at same =
    let number : ℕ = index + 1 in
    ap (λ l. checked_lane s.plan (case_of s number l) (bit_of number)
    (slice_index_or shown index [])) at.line
    ∙ (ap (λ b. checked_lane s.plan (case_of s number one) b (slice_index_or shown index [])) same
    ∙ ap (λ show. checked_lane s.plan (case_of s number one) bit show) at.show)

-- the next lane in the reply, by the number of that on the file
same_shown : (s : StatementValue) (bit_of : ℕ → Bool) (earlier : List (List Shown)) (before : ℕ)
    (bit : Bool)
    (reply : Rest) → length earlier ≡ before → bit_of (before + 1) ≡ bit
    → next_shown s bit_of earlier reply ≡ reply_lane_at (before + 1) s.plan.kinds bit reply
same_shown s bit_of earlier before bit reply same is =
    ap (λ n. reply_lane_at (n + 1) s.plan.kinds (bit_of (n + 1)) reply) same
    ∙ ap (λ b. reply_lane_at (before + 1) s.plan.kinds b reply) is

module _ (s : StatementValue) (bit_of : ℕ → Bool) where
  stand_at : (before : List LaneLines) (earlier : List (List Shown)) (count : ℕ)
      (file reply : Rest) (one : LaneLines)
      (other : List Shown) (rests : Rest × Rest) → length earlier ≡ length before
      → (later : LanesRead s bit_of (before ++ one ∷ []) (earlier ++ other ∷ []) count file reply
      rests)
      → StandsAt later.lines later.shown (length before) one other
  stand_at before earlier count file reply one other rests same later = record {
    line = many_keeps (next_lines s) before one count file later.lines rests.0 no_lines
        later.board_read;
    show = ap (λ i. slice_index_or later.shown i []) (sym same)
        ∙ many_keeps (next_shown s bit_of) earlier other count reply later.shown rests.1 []
        later.reply_read;
  }

  -- a lane, and those after it
  lanes_joined : (before : List LaneLines) (earlier : List (List Shown)) (bit : Bool) (count : ℕ)
      (file reply : Rest)
      (next rests : Rest × Rest)
      → length earlier ≡ length before → bit_of (length before + 1) ≡ bit
      → (read : LaneRead s (length before + 1) bit file reply next)
      → LanesRead s bit_of (before ++ read.lines ∷ []) (earlier ++ read.shown ∷ []) count next.0
      next.1 rests
      → LanesRead s bit_of before earlier (suc count) file reply rests
  lanes_joined before earlier bit count file reply next rests same is read later =
      let C : ℕ → Type 0 = λ index. IsChecked s bit_of later.lines later.shown index in
      let at = stand_at before earlier count next.0 next.1 read.lines read.shown rests same later in
      let first : C (length before) = (
        read.halves,
        same_check s bit_of later.lines later.shown (length before) read.lines bit
            read.shown at is ∙ read.checked,
      ) in
      record {
        lines = later.lines;
        shown = later.shown;
        board_read = many_step (next_lines s) before count file read.lines next.0 read.board_read
            ∙ later.board_read;
        reply_read = many_step (next_shown s bit_of) earlier count reply read.shown next.1
            (same_shown s bit_of earlier (length before) bit reply same is ∙ read.reply_read)
            ∙ later.reply_read;
        checked = λ index low high. elim (cases_eq index (length before)) [
          | inl here ↦ subst C (sym here) first
          | inr there ↦ later.checked index (omega (arith, low, there, more before read.lines))
              (omega (arith, high, more before read.lines))
        ];
      }

  -- what was read and checked, where every lane passes
  pub lanes_shown : (before : List LaneLines) (earlier : List (List Shown)) (bits : List Bool)
      (file reply : Rest)
      (rests : Rest × Rest)
      → length earlier ≡ length before → AreBits bit_of (length before) bits
      → lanes_judged s (length before + 1) bits file reply ≡ Ok rests
      → LanesRead s bit_of before earlier (length bits) file reply rests
  unfolding lanes_judged many_onto
  lanes_shown before earlier [] file reply rests same are ok =
      let over = value_same (file, reply) rests ok in
      record {
        lines = before;
        shown = earlier;
        board_read = ap (λ r. Ok (before, r.0)) over;
        reply_read = ap (λ r. Ok (earlier, r.1)) over;
        checked = λ index low high. absurd (omega (arith, low, high));
      }
  lanes_shown before earlier (bit ∷ bits) file reply rests same are ok =
      let lane = bind_ok (lane_judged s (length before + 1) bit file reply)
      (λ next. lanes_judged s (length before + 1 + 1) bits next.0 next.1) rests ok in
      let read = lane_shown s (length before + 1) bit file reply lane.0 lane.1 in
      let after : List LaneLines = before ++ read.lines ∷ [] in
      let number : length after + 1 ≡ length before + 1 + 1 = omega (arith, more before read.lines)
      in
      lanes_joined before earlier bit (length bits) file reply lane.0 rests same
      (first_bit bit_of (length before) bit bits are) read (
      lanes_shown after (earlier ++ read.shown ∷ []) bits lane.0.0 lane.0.1 rests
      (omega (arith, more before read.lines, more earlier read.shown, same))
      (later_bits bit_of (length before) (length after) bit bits (more before read.lines) are)
      (ap (λ n. lanes_judged s n bits lane.0.0 lane.0.1) number ∙ lane.2)
      )

  -- the first lane of those that were read
  lane_first : (before : List LaneLines) (earlier : List (List Shown)) (bit : Bool) (count : ℕ)
      (file reply : Rest)
      (rests : Rest × Rest)
      → length earlier ≡ length before → bit_of (length before + 1) ≡ bit
      → LanesRead s bit_of before earlier (suc count) file reply rests
      → (next : Rest × Rest) × (read : LaneRead s (length before + 1) bit file reply next)
      × LanesRead s bit_of (before ++ read.lines ∷ []) (earlier ++ read.shown ∷ []) count next.0
      next.1 rests
  lane_first before earlier bit count file reply rests same is all =
      let line = many_first (next_lines s) before count file all.lines rests.0 all.board_read in
      let show = many_first (next_shown s bit_of) earlier count reply all.shown rests.1
      all.reply_read in
      let later : LanesRead s bit_of (before ++ line.0 ∷ []) (earlier ++ show.0 ∷ []) count line.1
      show.1 rests = record {
        lines = all.lines;
        shown = all.shown;
        board_read = line.3;
        reply_read = show.3;
        checked = λ index low high. all.checked index (omega (arith, low, more before line.0))
            (omega (arith, high, more before line.0));
      } in
      let at = stand_at before earlier count line.1 show.1 line.0 show.0 rests same later in
      let check = all.checked (length before) (omega arith) (omega arith) in (
        (line.1, show.1),
        record {
          lines = line.0;
          shown = show.0;
          halves = check.0;
          board_read = line.2;
          reply_read = sym (same_shown s bit_of earlier (length before) bit reply same is) ∙ show.2;
          checked = sym (same_check s bit_of all.lines all.shown (length before) line.0 bit show.0
              at is) ∙ check.1;
        },
        later,
      )

  -- every lane passes, where all were read and are checked
  pub lanes_found : (before : List LaneLines) (earlier : List (List Shown)) (bits : List Bool)
      (file reply : Rest)
      (rests : Rest × Rest)
      → length earlier ≡ length before → AreBits bit_of (length before) bits
      → LanesRead s bit_of before earlier (length bits) file reply rests
      → lanes_judged s (length before + 1) bits file reply ≡ Ok rests
  unfolding lanes_judged
  lanes_found before earlier [] file reply rests same are all =
      let over = many_last (next_lines s) before file all.lines rests.0 all.board_read in
      let end = many_last (next_shown s bit_of) earlier reply all.shown rests.1 all.reply_read in
      ap (λ b. Ok (b, reply)) over ∙ ap (λ r. Ok (rests.0, r)) end
  lanes_found before earlier (bit ∷ bits) file reply rests same are all =
      let lane = lane_first before earlier bit (length bits) file reply rests same
      (first_bit bit_of (length before) bit bits are) all in
      let next : Rest × Rest = lane.0 in
      let after : List LaneLines = before ++ lane.1.lines ∷ [] in
      let number : length before + 1 + 1 ≡ length after + 1 =
      omega (arith, more before lane.1.lines) in
      bind_found (lane_judged s (length before + 1) bit file reply)
      (λ next. lanes_judged s (length before + 1 + 1) bits next.0 next.1) next
      (lane_found s (length before + 1) bit file reply next lane.1)
      ∙ (ap (λ n. lanes_judged s n bits next.0 next.1) number
      ∙ lanes_found after (earlier ++ lane.1.shown ∷ []) bits next.0 next.1 rests
      (omega (arith, more before lane.1.lines, more earlier lane.1.shown, same))
      (later_bits bit_of (length before) (length after) bit bits (more before lane.1.lines) are)
      lane.2)

-- ---- the bits of a challenge

-- from that of lane 1 on
pub bits_are : (challenge : Challenge) → AreBits (bit_of challenge) 0 challenge.bits
bits_are challenge index within =
    let here : 0 + index + 1 - 1 ≡ index = omega arith in
    ap (λ i. slice_index_or challenge.bits i false) here

-- the bits of the first lanes
pub taken_bits : (bits : Challenge) (count : ℕ) → count ≤ length bits.bits
    → AreBits (bit_of bits) 0 (take count bits.bits)
taken_bits bits count within =
    let long : length (take count bits.bits) ≡ count = length-take-le count bits.bits within in
    λ index inside. bits_are bits index (omega (arith, inside, long, within))
    ∙ sym (get_or-take count bits.bits index false (omega (arith, inside, long)))

-- the lanes after so many that are passed
pub lanes_split : (s : StatementValue) (number : ℕ) (bits : List Bool) (count : ℕ)
    (file reply : Rest)
    (rests : Rest × Rest)
    → lanes_judged s number (take count bits) file reply ≡ Ok rests
    → lanes_judged s number bits file reply
    ≡ lanes_judged s (number + count) (drop count bits) rests.0 rests.1
unfolding lanes_judged
lanes_split s number bits zero file reply rests passed =
    let here : number ≡ number + zero = omega arith in
    ap (λ n. lanes_judged s n bits file reply) here
    ∙ ap (λ r. lanes_judged s (number + zero) bits r.0 r.1)
    (value_same (file, reply) rests passed)
lanes_split s number [] (suc count) file reply rests passed = passed
lanes_split s number (bit ∷ bits) (suc count) file reply rests passed =
    let first = bind_ok (lane_judged s number bit file reply)
    (λ r. lanes_judged s (number + 1) (take count bits) r.0 r.1) rests passed in
    let there : number + 1 + count ≡ number + suc count = omega arith in
    ap (λ r. r >>= λ r. lanes_judged s (number + 1) bits r.0 r.1) first.1
    ∙ (lanes_split s (number + 1) bits count first.0.0 first.0.1 rests first.2
    ∙ ap (λ n. lanes_judged s n (drop count bits) rests.0 rests.1) there)
