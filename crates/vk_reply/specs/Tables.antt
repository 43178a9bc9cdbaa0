-- What may stand next in a challenge and in a reply, place by place.
use Rattle.std.specs.Prelude.{ℕ, zero, suc, ◌+◌, Bool, true, false, List, [], ◌∷◌, codes, Option, None, option_map}
use Rattle.vk_lines.specs.Forms.{Table}
use Rattle.vk_lines.specs.Tokens.{word_of, number_line}
use Rattle.vk_plan.specs.declared.wire.WireKind.{WireKind}
use Rattle.vk_reply.specs.Tokens.{bits_line}
use Rattle.vk_reply.specs.Reading.{shown_line, lane_line}

-- the places of both forms. At `Last` the line `end` stands next. At `Lane` so many lanes are left,
-- from the lane of that number on. At `Wire` the line of a wire of that kind stands next, and then
-- those of the kinds after it; the number is that of the lane, and so many lanes are left after it
pub data ReplyPlace : Type 0 where
  Heading : ReplyPlace
  Bits : ReplyPlace
  Count : ReplyPlace
  Lane : ℕ → ℕ → ReplyPlace
  Wire : ℕ → ℕ → WireKind → List WireKind → ReplyPlace
  Last : ReplyPlace
  Over : ReplyPlace

abbrev pub is_over : ReplyPlace → Bool
is_over Over = true
is_over _ = false

abbrev pub challenge_next : ReplyPlace → List ℕ → Option ReplyPlace
challenge_next Heading text = option_map (λ _. Bits) (word_of (codes "vickrey-challenge 1") text)
challenge_next Bits text = option_map (λ _. Last) (bits_line text)
challenge_next Last text = option_map (λ _. Over) (word_of (codes "end") text)
challenge_next _ text = None

abbrev pub challenge_table : Table ReplyPlace
challenge_table = record { first = Heading; next = challenge_next; over = is_over }

-- the place before the wires of these kinds in a lane, and then before the next lane
abbrev pub before_wires : ℕ → ℕ → List WireKind → ReplyPlace
before_wires lane more [] = Lane (lane + 1) more
before_wires lane more (kind ∷ kinds) = Wire lane more kind kinds

abbrev pub reply_next : List WireKind → (ℕ → Bool) → ReplyPlace → List ℕ → Option ReplyPlace
reply_next kinds bit_of Heading text =
    option_map (λ _. Count) (word_of (codes "vickrey-reply 1") text)
reply_next kinds bit_of Count text = option_map (Lane 1) (number_line (codes "lanes") 1 64 text)
reply_next kinds bit_of (Lane lane zero) text = option_map (λ _. Over) (word_of (codes "end") text)
reply_next kinds bit_of (Lane lane (suc more)) text =
    option_map (λ _. before_wires lane more kinds) (lane_line lane text)
reply_next kinds bit_of (Wire lane more kind after) text =
    option_map (λ _. before_wires lane more after) (shown_line kind (bit_of lane) text)
reply_next kinds bit_of _ text = None

abbrev pub reply_table : List WireKind → (ℕ → Bool) → Table ReplyPlace
reply_table kinds bit_of = record {
  first = Heading;
  next = reply_next kinds bit_of;
  over = is_over;
}
