-- Several forms, each in the range of one width.
use Rattle.std.specs.Prelude.{ℕ, List, [], All, length, slice_index_or}
use Rattle.vk_residue.specs.Limits.{IsWidth}
use Rattle.vk_plan.specs.declared.wire.WireKind.{WireKind}
use Rattle.vk_plan.specs.declared.form.Form.{Form}
use Rattle.vk_plan.specs.Forms.{form_value, NamesBelow}
use Rattle.vk_range.specs.declared.ranges.Ranges.{Ranges}
use Rattle.vk_range.specs.Sets.{listed, IsOfWidth}
use Rattle.vk_range.specs.Series.{series_kinds, series_rows, series_values}

-- the i-th form of a list, and behind its end a form that is 0
abbrev pub no_form : Form
no_form = record { terms = []; constant = 0 }

abbrev pub form_at : List Form → ℕ → Form
form_at forms i = slice_index_or forms i no_form

-- forms over the first so many wires, and a width from 1 to 40
pub record AreRanges (relation : Ranges) (wires : ℕ) : Type 0 where
  pub names : All (λ form. NamesBelow wires form.terms) relation.forms
  pub wide : IsWidth relation.width

-- a test set for each form
abbrev pub ranges_wires : Ranges → List WireKind
ranges_wires relation = series_kinds relation.width (length relation.forms)

-- the row of each form's set, where the first set begins at a wire
abbrev pub ranges_rows : Ranges → ℕ → List Form
ranges_rows relation start = series_rows (form_at relation.forms) start relation.width
    (length relation.forms)

-- each form is of the width
abbrev pub AreOfWidth : Ranges → List ℕ → Type 0
AreOfWidth relation values = All (λ form. IsOfWidth relation.width (form_value form values))
    relation.forms

-- each set has the value of its form
abbrev pub ranges_values : Ranges → List ℕ → List ℕ
ranges_values relation values =
    series_values values (form_at relation.forms) relation.width (length relation.forms)

-- the first so many forms of a function
abbrev pub listed_ranges : (ℕ → Form) → ℕ → ℕ → Ranges
listed_ranges form width count = record { forms = listed form count; width = width }
