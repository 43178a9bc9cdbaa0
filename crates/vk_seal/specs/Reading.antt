-- How a seal and a secret are read, line by line. The laws say that this is exactly their texts,
-- and stops at the fault line.
use Rattle.std.specs.Prelude.{ℕ, ◌^◌, ◌-◌, List, length, codes, Option, Result, Ok}
use Rattle.vk_residue.specs.Steps.{◌>>=◌}
use Rattle.vk_lines.specs.Lines.{Rest, line_by, end_at}
use Rattle.vk_lines.specs.Forms.{many_at}
use Rattle.vk_lines.specs.Tokens.{residue_of, hex_of, word_of, number_line, id_line, digests_line, three_fields}
use Rattle.vk_wire.specs.declared.wire.WireCom.{WireCom}
use Rattle.vk_wire.specs.Coms.{com_by}
use Rattle.vk_seal.specs.declared.secret.XTape.{XTape}
use Rattle.vk_seal.specs.declared.secret.Secret.{Secret}
use Rattle.vk_seal.specs.declared.secret.Seal.{Seal}
pub use Rattle.vk_seal.specs.Values.{IsXTape}

abbrev pub com_line : List ℕ → Option WireCom
com_line text = digests_line com_by (codes "x") text

abbrev pub tape_by : ℕ → List ℕ → List ℕ → XTape
tape_by mask first second = record { mask = mask; first_key = first; second_key = second }

abbrev pub tape_line : List ℕ → Option XTape
tape_line text = three_fields (codes "x") residue_of (hex_of 32) (hex_of 32) tape_by text

-- the lines of lanes, of which none shows the lane's number
abbrev pub com_at : ℕ → List ℕ → Option WireCom
com_at lane text = com_line text

unfoldable pub tape_at : ℕ → List ℕ → Option XTape
tape_at lane text = tape_line text

-- ---- the parts that both forms have

-- the first line, the id of an auction and a bidder's seat
unfoldable pub seat_at : List ℕ → Rest → Result ((List ℕ × ℕ) × Rest) ℕ
seat_at heading rest =
    line_by (word_of heading) rest >>= λ first.
    line_by (id_line (codes "auction")) first.1 >>= λ auction.
    line_by (number_line (codes "seat") 1 65535) auction.1 >>= λ seat.
    Ok ((auction.0, seat.0), seat.1)

-- how many lanes, the line of each, and the end
unfoldable pub lanes_at : {X : Type 0} → (ℕ → List ℕ → Option X) → Rest → Result (List X × Rest) ℕ
lanes_at parse rest =
    line_by (number_line (codes "lanes") 1 64) rest >>= λ count.
    many_at count.0 (λ before. line_by (parse (length before))) count.1 >>= λ lanes.
    end_at lanes.1 >>= λ over.
    Ok (lanes.0, over.1)

-- ---- a seal and a secret

abbrev pub seal_with : List ℕ × ℕ → List WireCom → Seal
seal_with place lanes = record { auction = place.0; seat = place.1; lanes = lanes }

unfoldable pub seal_at : Rest → Result (Seal × Rest) ℕ
seal_at rest =
    seat_at (codes "vickrey-seal 1") rest >>= λ place.
    lanes_at com_at place.1 >>= λ lanes.
    Ok (seal_with place.0 lanes.0, lanes.1)

abbrev pub secret_with : List ℕ × ℕ → ℕ → List XTape → Secret
secret_with place bid lanes = record { auction = place.0; seat = place.1; bid = bid; lanes = lanes }

unfoldable pub secret_at : Rest → Result (Secret × Rest) ℕ
secret_at rest =
    seat_at (codes "vickrey-secret 1") rest >>= λ place.
    line_by (number_line (codes "bid") 0 (2 ^ 40 - 1)) place.1 >>= λ bid.
    lanes_at tape_at bid.1 >>= λ lanes.
    Ok (secret_with place.0 bid.0 lanes.0, lanes.1)
