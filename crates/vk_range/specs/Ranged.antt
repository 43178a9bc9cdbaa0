-- Inputs, a copy of each, and ranges behind them.
use Rattle.std.specs.Prelude.{ℕ, ◌+◌, ◌<◌, ◌≤◌, ◌≡◌, List, ◌++◌, All, length, slice_index}
use Rattle.vk_residue.specs.Residue.{IsResidue}
use Rattle.vk_plan.specs.declared.form.Form.{Form}
use Rattle.vk_plan.specs.Plans.{PlanValue, extended}
use Rattle.vk_range.specs.declared.ranges.Ranges.{Ranges}
use Rattle.vk_range.specs.Ranges.{AreRanges, AreOfWidth, ranges_wires, ranges_rows, ranges_values}
use Rattle.vk_range.specs.Copies.{copies}

-- the forms of a list, in the range of a width
abbrev pub ranges_of : List Form → ℕ → Ranges
ranges_of forms width = record { forms = forms; width = width }

-- the plan with these ranges at its end
abbrev pub with_ranges : PlanValue → Ranges → PlanValue
with_ranges plan relation = extended plan (ranges_wires relation)
    (ranges_rows relation (length plan.kinds))

-- the inputs, their copies, and the ranges
abbrev pub ranged_plan : ℕ → Ranges → PlanValue
ranged_plan inputs relation = with_ranges (copies inputs inputs) relation

-- the values of these wires
abbrev pub ranged_values : List ℕ → Ranges → List ℕ
ranged_values inputs relation = inputs ++ inputs ++ ranges_values relation (inputs ++ inputs)

-- forms over the inputs and their copies, and not more of either than a plan has room for
pub record IsRanged (inputs : ℕ) (relation : Ranges) : Type 0 where
  pub some : 1 ≤ inputs
  pub most : inputs ≤ 65536
  pub fits : AreRanges relation (inputs + inputs)
  pub few : length relation.forms ≤ 262144

-- inputs whose copies have each form in its range
pub record MayBeFilled (inputs : List ℕ) (relation : Ranges) : Type 0 where
  pub ranged : IsRanged (length inputs) relation
  pub of_width : AreOfWidth relation (inputs ++ inputs)

-- what values that hold for such a plan show
pub record AreRanged (inputs : ℕ) (relation : Ranges) (values : List ℕ) : Type 0 where
  pub enough : inputs + inputs ≤ length values
  pub residues : All IsResidue values
  pub copied : (j : ℕ) → j < inputs → slice_index values j ≡ slice_index values (inputs + j)
  pub of_width : AreOfWidth relation values
