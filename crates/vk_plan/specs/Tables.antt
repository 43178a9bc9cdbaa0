-- Rows laid out flat: the wires and the factors of all of them one after another, where each row
-- ends, and the constants.
use Rattle.std.specs.Prelude.{ℕ, suc, ◌-◌, ◌≤◌, ◌≡◌, List, [], ◌∷◌, All, length, take, drop}
use Rattle.vk_plan.specs.declared.form.Term.{Term}
use Rattle.vk_plan.specs.declared.form.Form.{Form}
use Rattle.vk_plan.specs.declared.flat.Flat.{Flat}

-- the terms with these wires and factors
unfoldable pub terms_of : List ℕ → List ℕ → List Term
terms_of (wire ∷ wires) (factor ∷ factors) =
    record { wire = wire; factor = factor } ∷ terms_of wires factors
terms_of _ _ = []

-- those from that place on to that end
abbrev pub terms_between : List ℕ → List ℕ → ℕ → ℕ → List Term
terms_between wires factors start end =
    terms_of (take (end - start) (drop start wires)) (take (end - start) (drop start factors))

-- the rows from that place on, each to its end
unfoldable pub rows_from : List ℕ → List ℕ → ℕ → List ℕ → List ℕ → List Form
rows_from wires factors start (end ∷ ends) (constant ∷ constants) =
    record { terms = terms_between wires factors start end; constant = constant }
    ∷ rows_from wires factors end ends constants
rows_from _ _ _ _ _ = []

-- where a row begins: at the end of the one before, the first at that place
unfoldable pub start_from : ℕ → List ℕ → ℕ → ℕ
start_from start (end ∷ ends) (suc row) = start_from end ends row
start_from start _ _ = start

-- each wire has its factor, each row its constant, no row ends past the last wire, and the last row
-- ends there
pub record IsFlat (wires factors ends constants : List ℕ) : Type 0 where
  pub one_factor_each : length factors ≡ length wires
  pub one_constant_each : length constants ≡ length ends
  pub within : All (λ end. end ≤ length wires) ends
  pub whole : start_from 0 ends (length ends) ≡ length wires

-- the rows that are laid out
abbrev pub flat_rows : Flat → List Form
flat_rows flat = rows_from flat.wires.items flat.factors.items 0 flat.ends.items
    flat.constants.items

-- laid out as rows are
abbrev pub AreFlat : Flat → Type 0
AreFlat flat = IsFlat flat.wires.items flat.factors.items flat.ends.items flat.constants.items
