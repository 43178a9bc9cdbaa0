-- What files hold after others are written, and counts of what holds of all.
use Rattle.std.proofs.Common.{◌≡◌, ℕ, zero, suc, ◌+◌, Bool, true, false, not, cond, List, [], ◌∷◌, Some, refl, ap, ◌∙◌, arith}
use Rattle.std.specs.Prelude.{◌&&◌}
use Rattle.std.specs.List.{count_by, fold, range_with_len}
use Rattle.std.specs.Str.{bytes_eq}
use Rattle.std.specs.FinMap.{get, insert}
use Rattle.vk_io.specs.Files.{Files}
use Rattle.vk_io.specs.Writing.{written}
use Rattle.vk_io.proofs.Finite.{get_inserted, get_own}

-- ---- what a file holds after others are written

-- whether none of them has the name
abbrev pub none_named : List ℕ → List (List ℕ × List ℕ) → Bool
none_named name [] = true
none_named name (text ∷ texts) = not (bytes_eq name text.0) && none_named name texts

both : (one : Bool) (others : Bool) → (not one && others) ≡ true → (one ≡ false) × (others ≡ true)
both true others is = cc
both false others is = (refl, is)

held_still : (texts : List (List ℕ × List ℕ)) (files : Files) (name bytes : List ℕ)
    → none_named name texts ≡ true → get files name ≡ Some bytes
    → get (written texts files) name ≡ Some bytes
held_still [] files name bytes other held = held
held_still (text ∷ texts) files name bytes other held =
    let parts = both (bytes_eq name text.0) (none_named name texts) other in
    held_still texts (insert files text.0 text.1) name bytes parts.1
    (get_inserted files text.0 text.1 name ∙ ap (λ b. cond b (Some text.1) (get files name)) parts.0
    ∙ held)

-- a file that is written before others of other names
pub held_first : (texts : List (List ℕ × List ℕ)) (files : Files) (name bytes : List ℕ)
    → none_named name texts ≡ true → get (written ((name, bytes) ∷ texts) files) name ≡ Some bytes
held_first texts files name bytes other =
    held_still texts (insert files name bytes) name bytes other (get_own files name bytes)

-- ---- counts

counted_on : (test : ℕ → Bool) → ((index : ℕ) → test index ≡ true) → (so_far from count : ℕ)
    → fold (λ a x. a + cond (test x) 1 0) so_far (range_with_len from count) ≡ so_far + count
counted_on test all so_far from zero = omega arith
counted_on test all so_far from (suc count) =
    ap (λ b. fold (λ a x. a + cond (test x) 1 0) (so_far + cond b 1 0)
    (range_with_len (from + 1) count)) (all from)
    ∙ counted_on test all (so_far + 1) (from + 1) count ∙ omega arith

pub all_counted : (test : ℕ → Bool) → ((index : ℕ) → test index ≡ true) → (from count : ℕ)
    → count_by test (range_with_len from count) ≡ count
all_counted test all from count = counted_on test all 0 from count ∙ omega arith
