-- How many bits a digest gives.
use Rattle.std.proofs.Common.{◌≡◌, ℕ, ◌*◌, ◌≤◌, List, [], ◌∷◌, length, arith, refl, length-append, flat_map}
use Rattle.std.proofs.lemmas.List.{length-take-le}
use Rattle.vk_report.specs.Bits.{bits_of, leading_bits}

-- the bits of so many bytes
bit_count : (bytes : List ℕ) → length (flat_map bits_of bytes) ≡ 8 * length bytes
bit_count [] = refl
bit_count (byte ∷ bytes) = omega
    (arith, bit_count bytes, length-append (bits_of byte) (flat_map bits_of bytes))

-- a digest gives as many as are asked for, up to 256
pub leading_count : (count : ℕ) (digest : List ℕ) → length digest ≡ 32 → count ≤ 256
    → length (leading_bits count digest) ≡ count
leading_count count digest bytes few =
    length-take-le count (flat_map bits_of digest) (omega (arith, bit_count digest, bytes, few))
