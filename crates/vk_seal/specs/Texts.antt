-- The texts of a seal and of a secret, line by line.
use Rattle.std.specs.Prelude.{ℕ, List, [], ◌∷◌, ◌++◌, length, codes, decimal}
use Rattle.std.specs.List.{flat_map}
use Rattle.vk_lines.specs.Forms.{digests_text, line, spaced}
use Rattle.vk_lines.specs.Tokens.{hex_text}
use Rattle.vk_wire.specs.declared.wire.WireCom.{WireCom}
use Rattle.vk_seal.specs.declared.secret.XTape.{XTape}
use Rattle.vk_seal.specs.declared.secret.Secret.{Secret}
use Rattle.vk_seal.specs.declared.secret.Seal.{Seal}

-- `x`, the digests of the first and the second half
abbrev pub com_text : WireCom → List ℕ
com_text digests = digests_text (codes "x") digests.first digests.second

-- `x`, the mask, the first key, the second key
abbrev pub tape_text : XTape → List ℕ
tape_text tape = spaced (codes "x" ∷ decimal tape.mask ∷ hex_text tape.first_key
    ∷ hex_text tape.second_key ∷ [])

-- the first line of a form, the id of an auction and a seat
unfoldable pub seat_text : List ℕ → List ℕ → ℕ → List ℕ
seat_text heading auction seat =
    line heading
    ++ (line (spaced (codes "auction" ∷ hex_text auction ∷ []))
    ++ line (spaced (codes "seat" ∷ decimal seat ∷ [])))

-- how many lanes, the line of each, and the end
unfoldable pub lanes_text : {X : Type 0} → (X → List ℕ) → List X → List ℕ
lanes_text text lanes =
    line (spaced (codes "lanes" ∷ decimal (length lanes) ∷ []))
    ++ (flat_map (λ lane. line (text lane)) lanes
    ++ line (codes "end"))

unfoldable pub seal_text : Seal → List ℕ
seal_text seal =
    seat_text (codes "vickrey-seal 1") seal.auction seal.seat
    ++ lanes_text com_text seal.lanes

unfoldable pub secret_text : Secret → List ℕ
secret_text secret =
    seat_text (codes "vickrey-secret 1") secret.auction secret.seat
    ++ (line (spaced (codes "bid" ∷ decimal secret.bid ∷ []))
    ++ lanes_text tape_text secret.lanes)
