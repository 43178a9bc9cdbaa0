-- The bits of a digest, from which challenges are made.
use Rattle.std.specs.Prelude.{ℕ, ◌==◌, Bool, List, [], ◌∷◌, map, take}
use Rattle.std.specs.Int.{bit_at}
use Rattle.std.specs.List.{flat_map}

-- the bits of a byte, the most significant first
abbrev pub bits_of : ℕ → List Bool
bits_of byte = map (λ place. bit_at byte place == 1) (7 ∷ 6 ∷ 5 ∷ 4 ∷ 3 ∷ 2 ∷ 1 ∷ 0 ∷ [])

-- the first bits of a digest, those of its first byte first
abbrev pub leading_bits : ℕ → List ℕ → List Bool
leading_bits count digest = take count (flat_map bits_of digest)
