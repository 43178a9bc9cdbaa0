-- What may stand next in a seal and in a secret, place by place.
use Rattle.std.specs.Prelude.{ℕ, zero, suc, Bool, true, false, List, codes, Option, None, option_map, ◌^◌, ◌-◌}
use Rattle.vk_lines.specs.Forms.{Table}
use Rattle.vk_lines.specs.Tokens.{word_of, number_line, id_line}
use Rattle.vk_seal.specs.Reading.{com_line, tape_line}

-- the places of both forms; in a seal the count stands behind the seat, and no place leads to a
-- bid. At `Lanes` so many lines of lanes are left
pub data SealPlace : Type 0 where
  Heading : SealPlace
  Auction : SealPlace
  Seat : SealPlace
  Bid : SealPlace
  Count : SealPlace
  Lanes : ℕ → SealPlace
  Over : SealPlace

abbrev pub is_over : SealPlace → Bool
is_over Over = true
is_over _ = false

-- a form with this first line, this place behind the seat and these lines of lanes
abbrev pub next_by : {X : Type 0} → List ℕ → SealPlace → (List ℕ → Option X) → SealPlace → List ℕ
    → Option SealPlace
next_by heading behind parse Heading text = option_map (λ _. Auction) (word_of heading text)
next_by heading behind parse Auction text = option_map (λ _. Seat) (id_line (codes "auction") text)
next_by heading behind parse Seat text =
    option_map (λ _. behind) (number_line (codes "seat") 1 65535 text)
next_by heading behind parse Bid text =
    option_map (λ _. Count) (number_line (codes "bid") 0 (2 ^ 40 - 1) text)
next_by heading behind parse Count text = option_map Lanes (number_line (codes "lanes") 1 64 text)
next_by heading behind parse (Lanes zero) text = option_map (λ _. Over) (word_of (codes "end") text)
next_by heading behind parse (Lanes (suc more)) text = option_map (λ _. Lanes more) (parse text)
next_by heading behind parse Over text = None

abbrev pub table_by : {X : Type 0} → List ℕ → SealPlace → (List ℕ → Option X) → Table SealPlace
table_by heading behind parse =
    record { first = Heading; next = next_by heading behind parse; over = is_over }

abbrev pub seal_table : Table SealPlace
seal_table = table_by (codes "vickrey-seal 1") Count com_line

abbrev pub secret_table : Table SealPlace
secret_table = table_by (codes "vickrey-secret 1") Bid tape_line
