-- The texts of a challenge and of a reply, line by line.
use Rattle.std.specs.Prelude.{ℕ, Bool, if◌then◌else◌, List, [], ◌∷◌, ◌++◌, length, map, codes, decimal}
use Rattle.std.specs.List.{flat_map}
use Rattle.vk_lines.specs.Forms.{line, spaced, numbered_text}
use Rattle.vk_lines.specs.Tokens.{hex_text}
use Rattle.vk_wire.specs.declared.wire.Shown.{Shown}
use Rattle.vk_wire.specs.declared.wire.Shown.TheVariants.{Half, Whole, Spent}
use Rattle.vk_reply.specs.declared.challenge.Challenge.{Challenge}

-- the character `0` or `1`
abbrev pub bit_character : Bool → ℕ
bit_character bit = if bit then 49 else 48

abbrev pub bits_text : List Bool → List ℕ
bits_text bits = map bit_character bits

unfoldable pub challenge_text : Challenge → List ℕ
challenge_text challenge =
    line (codes "vickrey-challenge 1")
    ++ (line (spaced (codes "bits" ∷ bits_text challenge.bits ∷ []))
    ++ line (codes "end"))

-- `h`, a key, a value; `a`, the key and the value of the first entry, and those of the second; or
-- `s`, `0` or `1` for the first or the second entry, its key, its value
abbrev pub shown_text : Shown → List ℕ
shown_text (Half opening) = spaced (codes "h" ∷ hex_text opening.key ∷ decimal opening.value ∷ [])
shown_text (Whole first second) =
    spaced (codes "a" ∷ hex_text first.key ∷ decimal first.value ∷ hex_text second.key
    ∷ decimal second.value ∷ [])
shown_text (Spent second opening) =
    spaced (codes "s" ∷ (bit_character second ∷ []) ∷ hex_text opening.key ∷ decimal opening.value
    ∷ [])

-- the lines before the first lane
unfoldable pub reply_head_text : ℕ → List ℕ
reply_head_text lanes =
    line (codes "vickrey-reply 1")
    ++ line (spaced (codes "lanes" ∷ decimal lanes ∷ []))

-- the lines of the lane of that number
unfoldable pub reply_lane_text : ℕ → List Shown → List ℕ
reply_lane_text lane shown =
    line (spaced (codes "lane" ∷ decimal lane ∷ []))
    ++ flat_map (λ one. line (shown_text one)) shown

-- the lanes are numbered from 1 on
unfoldable pub reply_text : List (List Shown) → List ℕ
reply_text lanes =
    reply_head_text (length lanes)
    ++ (numbered_text reply_lane_text 1 lanes
    ++ line (codes "end"))
