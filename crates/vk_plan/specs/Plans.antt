-- Plans, and what it is for values to hold for one.
use Rattle.std.specs.Prelude.{ℕ, ◌^◌, ◌<◌, ◌≤◌, ◌≡◌, ◌⊎◌, ◌++◌, List, [], All, length, take, replicate, slice_index, slice_index_or, slice_get, Some}
use Rattle.vk_residue.specs.Residue.{IsResidue}
use Rattle.vk_plan.specs.declared.wire.WireKind.{WireKind}
use Rattle.vk_plan.specs.declared.wire.WireKind.TheVariants.{Split, Pair}
use Rattle.vk_plan.specs.declared.form.Form.{Form}
use Rattle.vk_plan.specs.Forms.{form_value, NamesBelow}

-- how many of the first wires are inputs, what values each wire may have, and the forms that are to
-- be 0
pub record PlanValue : Type 0 where
  pub inputs : ℕ
  pub kinds : List WireKind
  pub rows : List Form

-- a pair's weight is 2 ^ i for an i below 61
abbrev pub HasWeight : WireKind → Type 0
HasWeight Split = Unit {0}
HasWeight (Pair i) = i < 61

-- each term of a row names a wire of the plan
abbrev pub NamesOwnWires : PlanValue → Type 0
NamesOwnWires plan = All (λ row. NamesBelow (length plan.kinds) row.terms) plan.rows

-- what every plan keeps
pub record IsPlan (plan : PlanValue) : Type 0 where
  pub inputs_are_split : (w : ℕ) → w < plan.inputs → slice_get plan.kinds w ≡ Some Split
  pub weights : All HasWeight plan.kinds
  pub names : NamesOwnWires plan
  pub wires : length plan.kinds ≤ 16777216
  pub few_rows : length plan.rows ≤ 16777216

-- that many inputs, and no rows
abbrev pub plan_of_inputs : ℕ → PlanValue
plan_of_inputs inputs = record { inputs = inputs; kinds = replicate inputs Split; rows = [] }

-- the plan with wires and rows at its end
abbrev pub extended : PlanValue → List WireKind → List Form → PlanValue
extended plan kinds rows = record {
  inputs = plan.inputs;
  kinds = plan.kinds ++ kinds;
  rows = plan.rows ++ rows;
}

-- the first wires and rows of the plan
abbrev pub shortened : PlanValue → ℕ → ℕ → PlanValue
shortened plan wires rows = record {
  inputs = plan.inputs;
  kinds = take wires plan.kinds;
  rows = take rows plan.rows;
}

-- a wire of this kind may have this value: a pair has 0 or its weight
abbrev pub MayHave : WireKind → ℕ → Type 0
MayHave Split value = Unit {0}
MayHave (Pair i) value = (value ≡ 0) ⊎ (value ≡ 2 ^ i)

-- the values hold for the plan
pub record Holds (plan : PlanValue) (values : List ℕ) : Type 0 where
  pub one_each : length values ≡ length plan.kinds
  pub residues : All IsResidue values
  pub pairs : (w : ℕ) → w < length plan.kinds
      → MayHave (slice_index_or plan.kinds w Split) (slice_index values w)
  pub zero_rows : All (λ row. form_value row values ≡ 0) plan.rows
