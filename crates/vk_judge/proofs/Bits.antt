-- The bits of two challenges, compared.
use Rattle.std.proofs.Common.{◌≡◌, Bool, true, false, List, [], ◌∷◌, refl}
use lib.Pointwise.{pointwise}
use mathlib.Core.Bool.{beq}
use Rattle.vk_judge.specs.Two.{same_bits}

-- std's comparison of two lists of bits is that of the definitions
pub same_bits_are : (bits others : List Bool) → pointwise beq bits others ≡ same_bits bits others
same_bits_are [] [] = refl
same_bits_are [] (bit ∷ others) = refl
same_bits_are (bit ∷ bits) [] = refl
same_bits_are (true ∷ bits) (true ∷ others) = same_bits_are bits others
same_bits_are (true ∷ bits) (false ∷ others) = refl
same_bits_are (false ∷ bits) (true ∷ others) = refl
same_bits_are (false ∷ bits) (false ∷ others) = same_bits_are bits others
