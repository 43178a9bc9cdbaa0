-- The exclusive or of lists of bits, place by place, and the list that makes it one that is wanted.
use Rattle.std.specs.Prelude.{◌≡◌, ℕ, Bool, true, false, not, List, [], ◌∷◌, length, map, All, slice_index_or}
use Rattle.std.specs.List.{range_with_len}

-- of two bits: whether exactly one of them is true
abbrev pub xor : Bool → Bool → Bool
xor true other = not other
xor false other = other

-- of any number of bits: whether an odd number of them is true
abbrev pub xor_of : List Bool → Bool
xor_of [] = false
xor_of (bit ∷ bits) = xor bit (xor_of bits)

-- the bit of each list at a place
abbrev pub bits_at : ℕ → List (List Bool) → List Bool
bits_at place = map (λ bits. slice_index_or bits place false)

-- of lists of equal lengths: in each place the exclusive or of their bits in that place
unfoldable pub joint_of : List (List Bool) → List Bool
joint_of [] = []
joint_of (bits ∷ others) = map (λ place. xor_of (bits_at place (bits ∷ others)))
    (range_with_len 0 (length bits))

-- what one has to add to those of the others for the joint bits that are wanted: the exclusive or
-- of all
abbrev pub own_bits_of : List Bool → List (List Bool) → List Bool
own_bits_of wanted others = joint_of (wanted ∷ others)

-- each list has so many bits
abbrev pub HaveBits : ℕ → List (List Bool) → Type 0
HaveBits count = All (λ bits. length bits ≡ count)
