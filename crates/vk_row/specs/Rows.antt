-- What the halves of a lane and the posted number have to do with a row.
use Rattle.std.specs.Prelude.{◌≡◌, ℕ, Bool, true, false, ◌==◌, List, [], ◌∷◌}
use Rattle.vk_residue.specs.Residue.{sum, negative}
use Rattle.vk_plan.specs.Forms.{linear_part, form_value}
use Rattle.vk_plan.specs.declared.form.Form.{Form}

-- on first halves the row without its constant is the posted number, on second halves the row with
-- its constant is the negative of that
abbrev pub HasSide : Form → Bool → List ℕ → ℕ → Type 0
HasSide row false halves posted = linear_part row.terms halves ≡ posted
HasSide row true halves posted = form_value row halves ≡ negative posted

-- the same as a test, for definitions that compute
abbrev pub has_side : Form → Bool → List ℕ → ℕ → Bool
has_side row false halves posted = linear_part row.terms halves == posted
has_side row true halves posted = form_value row halves == negative posted

-- first and second halves, added wire by wire
abbrev pub sums : List ℕ → List ℕ → List ℕ
sums (first ∷ firsts) (second ∷ seconds) = sum first second ∷ sums firsts seconds
sums _ _ = []
