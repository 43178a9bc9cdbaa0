-- What two equal messages have in common.
use Rattle.std.proofs.Common.{◌≡◌, ℕ, ◌<◌, ◌^◌, List, ◌++◌, length, drop, arith, sym, ap, ◌∙◌, length-append, refl}
use Rattle.std.proofs.lemmas.List.{drop_at}
use Rattle.std.proofs.lemmas.Nat.{from_be_bytes-to_be_bytes_8}
use Rattle.std.specs.Prelude.{codes}
use Rattle.std.specs.Int.{w16, w32, w64, to_be_bytes, from_be_bytes}
use Rattle.vk_residue.specs.Residue.{modulus}
use Rattle.vk_commit.specs.Commitment.{message}
use Rattle.vk_commit.specs.declared.place.Opening.{Opening}
use Rattle.vk_commit.specs.declared.place.Place.{Place}

-- equal lists have equal ends of one length
pub same_ends : (xs ys zs ws : List ℕ) → length ys ≡ length ws → xs ++ ys ≡ zs ++ ws → ys ≡ ws
same_ends xs ys zs ws same e =
    let fronts : length xs ≡ length zs =
    omega (arith, same, length-append xs ys, length-append zs ws, ap length e) in
    sym (drop_at xs ys (length xs) refl) ∙ ap (drop (length xs)) e
    ∙ drop_at zs ws (length xs) (sym fronts)

-- numbers that are written alike are equal
pub same_number : (m n : ℕ) → m < 2 ^ 64 → n < 2 ^ 64 → to_be_bytes w64 m ≡ to_be_bytes w64 n
    → m ≡ n
same_number m n fits_m fits_n e =
    sym (from_be_bytes-to_be_bytes_8 m fits_m) ∙ ap (from_be_bytes w64) e
    ∙ from_be_bytes-to_be_bytes_8 n fits_n

-- what stands before the value
abbrev front : Place → Opening → List ℕ
front place opening =
    codes "VKC1" ++ place.auction ++ to_be_bytes w16 place.seat ++ to_be_bytes w16 place.lane
    ++ to_be_bytes w32 place.slot ++ opening.key

-- equal messages hold equal values
pub same_value : (place other : Place) (first second : Opening) → first.value < modulus
    → second.value < modulus → message place first ≡ message other second
    → first.value ≡ second.value
same_value place other first second small_first small_second e =
    same_number first.value second.value (omega arith) (omega arith)
    (same_ends (front place first) (to_be_bytes w64 first.value) (front other second)
    (to_be_bytes w64 second.value) refl e)
