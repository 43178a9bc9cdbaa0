-- A draw over several words, one word at a time.
use Rattle.std.proofs.Common.{◌≡◌, ℕ, suc, ◌+◌, None, sym, ap, ◌∙◌, add_assoc, zero-add}
use Rattle.vk_dice.specs.Words.{later}
use Rattle.vk_dice.specs.Draws.{drawn_by, first_of, residue_within, one_and, looked_at}

-- no distance
pub later-zero : (ahead : ℕ → ℕ) → later 0 ahead ≡ ahead
later-zero ahead = λ i k. ahead (zero-add k i)

-- one distance after another
pub later-later : (m n : ℕ) (ahead : ℕ → ℕ) → later n (later m ahead) ≡ later (m + n) ahead
later-later m n ahead = λ i k. ahead (sym (add_assoc m n k) i)

-- a word that draws nothing leaves the draw to the others
pub within_others : (n m : ℕ) (now new : ℕ → ℕ) → n ≡ suc m → drawn_by (now 0) ≡ None
    → new ≡ later 1 now → residue_within n now ≡ residue_within m new
within_others n m now new e none after =
    ap (λ k. residue_within k now) e
    ∙ ap (λ o. first_of o (residue_within m (later 1 now))) none
    ∙ ap (residue_within m) (sym after)

pub looked_others : (n m : ℕ) (now new : ℕ → ℕ) → n ≡ suc m → drawn_by (now 0) ≡ None
    → new ≡ later 1 now → later (looked_at n now) now ≡ later (looked_at m new) new
looked_others n m now new e none after =
    ap (λ k. later (looked_at k now) now) e
    ∙ ap (λ o. later (one_and o (looked_at m (later 1 now))) now) none
    ∙ sym (later-later 1 (looked_at m (later 1 now)) now)
    ∙ ap (λ f. later (looked_at m f) f) (sym after)
