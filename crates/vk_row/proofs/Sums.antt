-- Sums of two lists, wire by wire.
use Rattle.std.proofs.Common.{◌≡◌, ℕ, zero, suc, ◌<◌, List, [], ◌∷◌, length, get_or, slice_index, refl, arith}
use Rattle.vk_residue.specs.Residue.{sum}
use Rattle.vk_row.specs.Rows.{sums}

pub length-sums : (firsts seconds : List ℕ) → length firsts ≡ length seconds
    → length (sums firsts seconds) ≡ length firsts
length-sums [] seconds same = refl
length-sums (u ∷ us) [] same = absurd (omega arith)
length-sums (u ∷ us) (v ∷ vs) same = omega (arith, length-sums us vs (omega arith))

-- one place of the sums
pub get_or-sums : (firsts seconds : List ℕ) (k d : ℕ) → length firsts ≡ length seconds
    → k < length firsts
    → get_or (sums firsts seconds) k d ≡ sum (slice_index firsts k) (slice_index seconds k)
get_or-sums [] seconds k d same lt = absurd (omega arith)
get_or-sums (u ∷ us) [] k d same lt = absurd (omega arith)
get_or-sums (u ∷ us) (v ∷ vs) zero d same lt = refl
get_or-sums (u ∷ us) (v ∷ vs) (suc k) d same lt = get_or-sums us vs k d (omega arith) (omega arith)
