-- The forms that the relations put into rows.
use Rattle.std.specs.Prelude.{List, ℕ, ◌-◌, Bool, if◌then◌else◌, [], ◌∷◌, length}
use Rattle.vk_residue.specs.Limits.{IsWidth}
use Rattle.vk_residue.specs.Residue.{modulus}
use Rattle.vk_plan.specs.declared.wire.WireKind.{WireKind}
use Rattle.vk_plan.specs.declared.wire.WireKind.TheVariants.{Split}
use Rattle.vk_plan.specs.declared.form.Form.{Form}
use Rattle.vk_plan.specs.Forms.{NamesBelow}
use Rattle.vk_plan.specs.Plans.{PlanValue}
use Rattle.vk_range.specs.Sets.{plus, minus}

-- one wire of any value
abbrev pub one_wire : List WireKind
one_wire = Split ∷ []

-- minus 1 where strict
abbrev pub less_one : Bool → ℕ
less_one strict = if strict then modulus - 1 else 0

-- left - right, less 1 where strict
abbrev pub difference_form : ℕ → ℕ → Bool → Form
difference_form left right strict =
    record { terms = plus left ∷ minus right ∷ []; constant = less_one strict }

-- a form over the wires of the plan, and a width from 1 to 40
pub record IsRange (form : Form) (width : ℕ) (plan : PlanValue) : Type 0 where
  pub names : NamesBelow (length plan.kinds) form.terms
  pub wide : IsWidth width
