-- What is printed of a seal that isn't a secret's.
use Rattle.std.specs.Prelude.{ℕ, Bool, true, false, List, [], ◌∷◌, codes, decimal}
use Rattle.vk_lines.specs.Forms.{spaced}
use Rattle.vk_lines.specs.Tokens.{hex_text}
use Rattle.vk_seal.specs.declared.matching.Mismatch.{Mismatch}
use Rattle.vk_seal.specs.declared.matching.Mismatch.TheVariants.{Auction, Seat, Lanes, Digest}

abbrev pub half_number : Bool → List ℕ
half_number false = codes "0"
half_number true = codes "1"

-- a digest of the lane that is kept, and the one that is made of the secret
abbrev pub digest_fields : ℕ → Bool → List ℕ → List ℕ → List ℕ
digest_fields lane second kept made =
    spaced (codes "lane" ∷ decimal lane ∷ codes "half" ∷ half_number second ∷ codes "kept"
    ∷ hex_text kept ∷ codes "made" ∷ hex_text made ∷ [])

-- the field in which a seal isn't the secret's
abbrev pub mismatch_fields : Mismatch → List ℕ
mismatch_fields (Auction kept given) = codes "auction"
mismatch_fields (Seat kept given) = codes "seat"
mismatch_fields (Lanes kept given) = codes "lanes"
mismatch_fields (Digest lane second kept made) = digest_fields lane second kept made
