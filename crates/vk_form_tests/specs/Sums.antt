-- What is claimed of three hidden numbers: each is below 2^3, and they come to a published total.
-- And the circuit that shows it.
use Rattle.std.specs.Prelude.{◌≡◌, ℕ, ◌-◌, ◌%◌, ◌^◌, ◌<◌, List, [], ◌∷◌, ◌++◌, All, length, sum}
use Rattle.vk_residue.specs.Residue.{modulus}
use Rattle.vk_plan.specs.declared.form.Form.{Form}
use Rattle.vk_plan.specs.Plans.{PlanValue, plan_of_inputs, extended}
use Rattle.vk_range.specs.declared.ranges.Ranges.{Ranges}
use Rattle.vk_range.specs.Sets.{plus}
use Rattle.vk_range.specs.Ranges.{listed_ranges, ranges_wires, ranges_rows, ranges_values}

-- what the circuit shows of its inputs
pub record SumTo (total : ℕ) (numbers : List ℕ) : Type 0 where
  pub three : length numbers ≡ 3
  pub small : All (λ number. number < 2 ^ 3) numbers
  pub come_to : sum numbers ≡ total

-- the inputs less the total: 0 where they come to it
abbrev pub total_form : ℕ → Form
total_form total = record {
  terms = plus 0 ∷ plus 1 ∷ plus 2 ∷ [];
  constant = (modulus - total) % modulus;
}

-- one input as it is
abbrev pub input_form : ℕ → Form
input_form input = record { terms = plus input ∷ []; constant = 0 }

-- each input is below 2^3
abbrev pub input_ranges : Ranges
input_ranges = listed_ranges input_form 3 3

-- the inputs and the row of their total
abbrev pub total_plan : ℕ → PlanValue
total_plan total = extended (plan_of_inputs 3) [] (total_form total ∷ [])

-- and the ranges
unfoldable pub sum_plan : ℕ → PlanValue
sum_plan total = extended (total_plan total) (ranges_wires input_ranges)
    (ranges_rows input_ranges (length (total_plan total).kinds))

-- the values of all wires: the inputs, and then the bits of each
abbrev pub sum_values : List ℕ → List ℕ
sum_values numbers = numbers ++ ranges_values input_ranges numbers
