-- How a challenge and a reply are read, line by line. The laws say that this is exactly their
-- texts, and stops at the fault line.
use Rattle.std.specs.Prelude.{ℕ, ◌+◌, Bool, true, false, List, length, codes, slice_index_or, Option, option_map, Result, Ok}
use Rattle.vk_residue.specs.Steps.{◌>>=◌}
use Rattle.vk_commit.specs.declared.place.Opening.{Opening}
use Rattle.vk_lines.specs.Lines.{Rest, line_by, end_at}
use Rattle.vk_lines.specs.Forms.{many_at}
use Rattle.vk_lines.specs.Tokens.{hex_of, word_of, number_line, two_fields, three_fields, four_fields}
use Rattle.vk_plan.specs.declared.wire.WireKind.{WireKind}
use Rattle.vk_plan.specs.declared.wire.WireKind.TheVariants.{Split, Pair}
use Rattle.vk_wire.specs.declared.wire.Shown.{Shown}
use Rattle.vk_wire.specs.declared.wire.Shown.TheVariants.{Half, Whole, Spent}
use Rattle.vk_reply.specs.declared.challenge.Challenge.{Challenge}
use Rattle.vk_reply.specs.Tokens.{bits_line, entry_of, opening_by}
use Rattle.vk_lines.specs.Tokens.{residue_of}

-- a challenge
unfoldable pub challenge_at : Rest → Result (Challenge × Rest) ℕ
challenge_at rest =
    line_by (word_of (codes "vickrey-challenge 1")) rest >>= λ heading.
    line_by bits_line heading.1 >>= λ bits.
    end_at bits.1 >>= λ over.
    Ok (record { bits = bits.0 }, over.1)

-- ---- what is shown of a wire

abbrev pub half_line : List ℕ → Option Shown
half_line text = option_map Half (two_fields (codes "h") (hex_of 32) residue_of opening_by text)

abbrev pub whole_by : Opening × Opening → Shown
whole_by both = Whole both.0 both.1

abbrev pub openings_by : List ℕ → ℕ → List ℕ → ℕ → Opening × Opening
openings_by key value next_key next_value = (opening_by key value, opening_by next_key next_value)

abbrev pub whole_line : List ℕ → Option Shown
whole_line text = option_map whole_by
    (four_fields (codes "a") (hex_of 32) residue_of (hex_of 32) residue_of openings_by text)

abbrev pub spent_by : Bool × Opening → Shown
spent_by entry = Spent entry.0 entry.1

abbrev pub entry_by : Bool → List ℕ → ℕ → Bool × Opening
entry_by second key value = (second, opening_by key value)

abbrev pub spent_line : List ℕ → Option Shown
spent_line text = option_map spent_by
    (three_fields (codes "s") entry_of (hex_of 32) residue_of entry_by text)

-- the line of a wire of this kind for this bit
abbrev pub shown_line : WireKind → Bool → List ℕ → Option Shown
shown_line Split bit text = half_line text
shown_line (Pair weight) false text = whole_line text
shown_line (Pair weight) true text = spent_line text

-- ---- a reply

-- the number of lanes
unfoldable pub reply_head_at : Rest → Result (ℕ × Rest) ℕ
reply_head_at rest =
    line_by (word_of (codes "vickrey-reply 1")) rest >>= λ heading.
    line_by (number_line (codes "lanes") 1 64) heading.1

-- the line that says the number of a lane, which is known
abbrev pub lane_line : ℕ → List ℕ → Option ℕ
lane_line lane text = number_line (codes "lane") lane lane text

-- the line of the wire after those before
abbrev pub wire_at : List WireKind → Bool → List Shown → Rest → Result (Shown × Rest) ℕ
wire_at kinds bit before rest =
    line_by (shown_line (slice_index_or kinds (length before) Split) bit) rest

-- one line for each wire
abbrev pub wires_at : List WireKind → Bool → Rest → Result (List Shown × Rest) ℕ
wires_at kinds bit rest = many_at (length kinds) (wire_at kinds bit) rest

-- the lane of that number
unfoldable pub reply_lane_at : ℕ → List WireKind → Bool → Rest → Result (List Shown × Rest) ℕ
reply_lane_at lane kinds bit rest =
    line_by (number_line (codes "lane") lane lane) rest >>= λ number.
    wires_at kinds bit number.1

-- so many lanes, from lane 1 on
abbrev pub reply_lanes_at : List WireKind → (ℕ → Bool) → ℕ → Rest
    → Result (List (List Shown) × Rest) ℕ
reply_lanes_at kinds bit_of count rest =
    many_at count (λ before. reply_lane_at (length before + 1) kinds (bit_of (length before + 1)))
    rest

-- a reply
unfoldable pub reply_at : List WireKind → (ℕ → Bool) → Rest → Result (List (List Shown) × Rest) ℕ
reply_at kinds bit_of rest =
    reply_head_at rest >>= λ count.
    reply_lanes_at kinds bit_of count.0 count.1 >>= λ lanes.
    end_at lanes.1 >>= λ over.
    Ok (lanes.0, over.1)
