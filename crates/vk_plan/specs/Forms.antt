-- What a form comes to on a list of values, in whole numbers.
use Rattle.std.specs.Prelude.{ℕ, ◌+◌, ◌*◌, ◌%◌, ◌<◌, List, [], All, slice_index, sum_by}
use Rattle.vk_residue.specs.Residue.{modulus}
use Rattle.vk_plan.specs.declared.form.Term.{Term}
use Rattle.vk_plan.specs.declared.form.Form.{Form}

-- a factor times the value of its wire
abbrev pub term_value : List ℕ → Term → ℕ
term_value values term = term.factor * slice_index values term.wire

-- what the terms come to: the sum of factor times value, modulo M
unfoldable pub linear_part : List Term → List ℕ → ℕ
linear_part terms values = sum_by (term_value values) terms % modulus

-- the same with the constant
unfoldable pub form_value : Form → List ℕ → ℕ
form_value form values = (linear_part form.terms values + form.constant) % modulus

-- each term names a wire of the first so many
abbrev pub NamesBelow : ℕ → List Term → Type 0
NamesBelow wires terms = All (λ term. term.wire < wires) terms

-- what a list of rows has past its end
abbrev pub no_row : Form
no_row = record { terms = []; constant = 0 }
