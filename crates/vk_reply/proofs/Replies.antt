-- A reply is read from its text alone, and reading stops at the fault line.
use Rattle.std.proofs.Common.{◌≡◌, ℕ, zero, suc, ◌+◌, ◌^◌, ◌<◌, ◌≤◌, nat_le, true, Bool, List, [], ◌∷◌, ◌++◌, length, drop, codes, get_or, slice_get, slice_index_or, Some, option_map, Result, refl, ap, sym, ◌∙◌, arith, subst, length-append}
use Rattle.std.proofs.lemmas.Bool.{le-leb, leb-true}
use Rattle.std.specs.Result.{result_err}
use Rattle.vk_lines.specs.Lines.{Rest}
use Rattle.vk_lines.specs.Forms.{EachAfter, IsPart, IsWhole, Follows, FindsFaults, Table, fault_at, fault_line, many_onto, whole}
use Rattle.vk_lines.proofs.Words.{number_line_is}
use Rattle.vk_lines.proofs.Parts.{line_part, many_part, part_headed, part_then, part_same, whole_then, whole_end, whole_same}
use Rattle.vk_lines.proofs.Each.{at_from_each, each_from_at}
use Rattle.vk_lines.proofs.Numbered.{numbered_part}
use Rattle.vk_lines.proofs.Faults.{line_follows, follows_then, follows_done, many_follows, ends_then, end_ends, ends_done, fault_line_is}
use Rattle.vk_plan.specs.declared.wire.WireKind.{WireKind}
use Rattle.vk_plan.specs.declared.wire.WireKind.TheVariants.{Split}
use Rattle.vk_wire.specs.declared.wire.Shown.{Shown}
use Rattle.vk_reply.specs.Values.{AreShown, IsReply}
use Rattle.vk_reply.specs.Texts.{reply_head_text, reply_lane_text, reply_text}
use Rattle.vk_reply.specs.Reading.{shown_line, lane_line, wire_at, reply_head_at, reply_lane_at, reply_lanes_at, reply_at}
use Rattle.vk_reply.specs.Tables.{ReplyPlace, Heading, Count, Lane, Wire, Over, before_wires, reply_table}
use Rattle.vk_reply.proofs.Lines.{shown_line_is}
use Rattle.vk_reply.proofs.Wires.{AreWires, from_shown, to_shown}

-- ---- the head

abbrev IsCount : ℕ → Type 0
IsCount lanes = (1 ≤ lanes) × (lanes ≤ 64)

pub head_is_part : IsPart IsCount reply_head_text reply_head_at
unfolding reply_head_text reply_head_at
head_is_part =
    part_same (part_headed (codes "vickrey-reply 1") refl (omega arith)
    (line_part (number_line_is (codes "lanes") 1 64 refl (omega arith) (omega arith))))
    (λ lanes is. (leb-true 1 lanes is.1, is.0))
    (λ lanes is. (is.1, le-leb 1 lanes is.0))
    (λ lanes. refl)

-- ---- a lane

between : (lane number : ℕ) → number ≤ lane → nat_le lane number ≡ true → lane ≡ number
between lane number most test = let least = leb-true lane number test in omega arith

pub lane_is_part : (lane : ℕ) (kinds : List WireKind) (bit : Bool) → lane < 2 ^ 64
    → IsPart (AreShown kinds bit) (reply_lane_text lane) (reply_lane_at lane kinds bit)
unfolding reply_lane_text reply_lane_at
lane_is_part lane kinds bit fits =
    part_same (
    part_then {IsZ = λ number shown. (lane ≡ number)
    × ((length shown ≡ length kinds) × AreWires kinds bit shown)} (λ shown. lane)
    (line_part (number_line_is (codes "lane") lane lane refl (omega arith) fits))
    (λ number is. part_same (many_part (length kinds) (λ before.
    line_part (shown_line_is (slice_index_or kinds (length before) Split) bit)))
    (λ shown wires. (between lane number is.0 is.1, wires)) (λ shown wires. wires.1)
    (λ shown. refl))
    (λ number shown is. is.0)
    )
    (λ shown is. to_shown kinds bit shown is.1.1.0 is.1.1.1)
    (λ shown is. (
      (omega arith, le-leb lane lane (omega arith)),
      (refl, (is.one_each, from_shown kinds bit shown is)),
    ))
    (λ shown. refl)

-- ---- a reply and its text

abbrev IsLane : List WireKind → (ℕ → Bool) → ℕ → List Shown → Type 0
IsLane kinds bit_of lane shown = AreShown kinds (bit_of lane) shown

small_lane : (lane : ℕ) → lane ≤ 64 → lane < 2 ^ 64
small_lane lane few = omega arith

-- each lane at its place
to_lanes : (kinds : List WireKind) (bit_of : ℕ → Bool) (lanes : List (List Shown))
    → EachAfter (λ before. IsLane kinds bit_of (length before + 1)) [] lanes
    → (index : ℕ) (shown : List Shown) → slice_get lanes index ≡ Some shown
    → IsLane kinds bit_of (index + 1) shown
to_lanes kinds bit_of lanes each index shown is =
    let same : 0 + index + 1 ≡ index + 1 = omega arith in
    let L : ℕ → Type 0 = λ lane. IsLane kinds bit_of lane shown in
    subst L same (at_from_each (λ n. IsLane kinds bit_of (n + 1)) [] lanes each index shown is)

from_lanes : (kinds : List WireKind) (bit_of : ℕ → Bool) (lanes : List (List Shown))
    → ((index : ℕ) (shown : List Shown) → slice_get lanes index ≡ Some shown
    → IsLane kinds bit_of (index + 1) shown)
    → EachAfter (λ before. IsLane kinds bit_of (length before + 1)) [] lanes
from_lanes kinds bit_of lanes at =
    each_from_at (λ n. IsLane kinds bit_of (n + 1)) [] lanes (λ index shown is.
    let same : index + 1 ≡ 0 + index + 1 = omega arith in
    let L : ℕ → Type 0 = λ lane. IsLane kinds bit_of lane shown in
    subst L same (at index shown is))

pub reply_is_whole : (kinds : List WireKind) (bit_of : ℕ → Bool)
    → IsWhole (IsReply kinds bit_of) reply_text (reply_at kinds bit_of)
unfolding reply_text reply_at
reply_is_whole kinds bit_of =
    whole_same (
    whole_then (λ lanes. length lanes) head_is_part (λ count few.
    whole_then (λ lanes. lanes)
    (numbered_part {IsValue = IsLane kinds bit_of} 64 count few.1 (λ lane small.
    lane_is_part lane kinds (bit_of lane) (small_lane lane small)))
    (λ lanes _. whole_end lanes) (λ read lanes same. same))
    (λ count lanes is. is.0.0)
    )
    (λ lanes is. record {
      count = record { least = is.0.0; most = is.0.1 };
      each = to_lanes kinds bit_of lanes is.1.0.1;
    })
    (λ lanes is. (
      (is.count.least, is.count.most),
      ((refl, from_lanes kinds bit_of lanes is.each), refl),
    ))
    (λ lanes. refl)

-- ---- the fault line

follows_same : {P X : Type 0} {table : Table P} {place : P} {read : Rest → Result (X × Rest) ℕ}
    {after next : X → P} → Follows table place read after → ((x : X) → after x ≡ next x)
    → Follows table place read next
follows_same {table = table} follows same = record {
  ok = λ rest x more some. follows.ok rest x more some ∙ ap (λ p. fault_at table p more) (same x);
  err = λ rest number none. follows.err rest number none;
}

-- what is left of a list begins with the item there
drop_is : {X : Type 0} (xs : List X) (i : ℕ) (d x : X) (after : List X) → drop i xs ≡ x ∷ after
    → (get_or xs i d ≡ x) × (drop (suc i) xs ≡ after)
drop_is [] zero d x after is = cc
drop_is [] (suc i) d x after is = cc
drop_is (y ∷ xs) zero d x after is = (cc, cc)
drop_is (y ∷ xs) (suc i) d x after is = drop_is xs i d x after is

wires_follow : (kinds : List WireKind) (bit_of : ℕ → Bool) (lane more : ℕ) (before : List Shown)
    (left : List WireKind) → drop (length before) kinds ≡ left
    → Follows (reply_table kinds bit_of) (before_wires lane more left)
    (many_onto before (length left) (wire_at kinds (bit_of lane))) (λ _. Lane (lane + 1) more)
unfolding many_onto
wires_follow kinds bit_of lane more before [] is =
    follows_done (reply_table kinds bit_of) (λ _. Lane (lane + 1) more) before
wires_follow kinds bit_of lane more before (kind ∷ after) is =
    let here = drop_is kinds (length before) Split kind after is in
    let table : Table ReplyPlace = reply_table kinds bit_of in
    follows_then table (Wire lane more kind after)
    (line_follows table (Wire lane more kind after)
    (shown_line (slice_index_or kinds (length before) Split) (bit_of lane))
    (λ _. before_wires lane more after)
    (λ text. ap (λ k. option_map (λ _. before_wires lane more after)
    (shown_line k (bit_of lane) text)) (sym here.0)) refl)
    (λ one.
    let long : length (before ++ one ∷ []) ≡ suc (length before) =
    omega (arith, length-append before (one ∷ [])) in
    wires_follow kinds bit_of lane more (before ++ one ∷ []) after
    (ap (λ n. drop n kinds) long ∙ here.1))

lane_follows : (kinds : List WireKind) (bit_of : ℕ → Bool) (lane more : ℕ)
    → Follows (reply_table kinds bit_of) (Lane lane (suc more))
    (reply_lane_at lane kinds (bit_of lane)) (λ _. Lane (lane + 1) more)
unfolding reply_lane_at
lane_follows kinds bit_of lane more =
    follows_then (reply_table kinds bit_of) (Lane lane (suc more))
    (line_follows (reply_table kinds bit_of) (Lane lane (suc more)) (lane_line lane)
    (λ _. before_wires lane more kinds) (λ text. refl) refl)
    (λ number. wires_follow kinds bit_of lane more [] kinds refl)

lanes_follow : (kinds : List WireKind) (bit_of : ℕ → Bool) (count : ℕ)
    → Follows (reply_table kinds bit_of) (Lane 1 count) (reply_lanes_at kinds bit_of count)
    (λ lanes. Lane (length lanes + 1) zero)
lanes_follow kinds bit_of count =
    many_follows (reply_table kinds bit_of) (λ left before. Lane (length before + 1) left)
    (λ before. reply_lane_at (length before + 1) kinds (bit_of (length before + 1)))
    (λ left before. follows_same (lane_follows kinds bit_of (length before + 1) left) (λ shown.
    let next : length before + 1 + 1 ≡ length (before ++ shown ∷ []) + 1 =
    omega (arith, length-append before (shown ∷ [])) in ap (λ lane. Lane lane left) next))
    count []

head_follows : (kinds : List WireKind) (bit_of : ℕ → Bool)
    → Follows (reply_table kinds bit_of) Heading reply_head_at (Lane 1)
unfolding reply_head_at
head_follows kinds bit_of =
    follows_then (reply_table kinds bit_of) Heading
    (line_follows (reply_table kinds bit_of) Heading _ (λ _. Count) (λ text. refl) refl)
    (λ heading. line_follows (reply_table kinds bit_of) Count _ (Lane 1) (λ text. refl) refl)

pub reply_ends : (kinds : List WireKind) (bit_of : ℕ → Bool)
    → FindsFaults (reply_table kinds bit_of) Heading (reply_at kinds bit_of)
unfolding reply_at
reply_ends kinds bit_of =
    ends_then (reply_table kinds bit_of) Heading (head_follows kinds bit_of) (λ count.
    ends_then (reply_table kinds bit_of) (Lane 1 count) (lanes_follow kinds bit_of count) (λ lanes.
    ends_done (reply_table kinds bit_of) (Lane (length lanes + 1) zero) lanes
    (end_ends (reply_table kinds bit_of) (Lane (length lanes + 1) zero) Over (λ text. refl) refl
    (λ text. refl) refl)))

pub reply_fault : (kinds : List WireKind) (bit_of : ℕ → Bool) (bytes : List ℕ)
    → fault_line (reply_table kinds bit_of) bytes ≡ result_err (whole (reply_at kinds bit_of) bytes)
reply_fault kinds bit_of bytes =
    fault_line_is (reply_table kinds bit_of) (reply_at kinds bit_of) (reply_ends kinds bit_of) bytes
