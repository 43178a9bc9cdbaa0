-- The plan that shows a sale of equal units at one price, and the values that hold for it. Wires,
-- rows and places count from 0, positions from 1. The numbers that are published are the width, the
-- price, and the winners' positions.
use Rattle.std.specs.Prelude.{ℕ, ◌+◌, ◌-◌, ◌*◌, ◌^◌, ◌<◌, ◌≤◌, ◌≡◌, ◌==◌, if◌then◌else◌, nat_lt, List, [], ◌∷◌, ◌++◌, All, drop, flat_map, length, map, slice_index}
use Rattle.vk_residue.specs.Limits.{IsWidth}
use Rattle.vk_plan.specs.declared.form.Form.{Form}
use Rattle.vk_plan.specs.Plans.{PlanValue, extended}
use Rattle.vk_range.specs.declared.ranges.Ranges.{Ranges}
use Rattle.vk_range.specs.declared.selected.SelectedIs.{SelectedIs}
use Rattle.vk_range.specs.Sets.{listed, plus, minus}
use Rattle.vk_range.specs.Forms.{difference_form}
use Rattle.vk_range.specs.Ranged.{ranges_of, ranged_plan, ranged_values}
use Rattle.vk_range.specs.Selected.{selected_wires, selected_rows, selected_values}
use Rattle.vk_uniform.specs.Outcomes.{IsPositionAmong, IsAscending, IsLoser, IsUniformOutcome}
use Rattle.vk_uniform.specs.Losers.{losers}

-- what the numbers are
abbrev pub width_of : List ℕ → ℕ
width_of numbers = slice_index numbers 0

abbrev pub price_of : List ℕ → ℕ
price_of numbers = slice_index numbers 1

abbrev pub winners_of : List ℕ → List ℕ
winners_of numbers = drop 2 numbers

-- the positions that no winner has
abbrev pub losers_of : ℕ → List ℕ → List ℕ
losers_of inputs numbers = losers inputs (winners_of numbers)

-- how many bids there are and the numbers that are published, each within its limits
pub record IsUniformInLimits (inputs : ℕ) (numbers : List ℕ) : Type 0 where
  pub some_inputs : 1 ≤ inputs
  pub most_inputs : inputs ≤ 64
  pub enough : 3 ≤ length numbers
  pub wide : IsWidth (width_of numbers)
  pub within_width : price_of numbers < 2 ^ width_of numbers
  pub are_positions : All (IsPositionAmong inputs) (winners_of numbers)
  pub ascending : IsAscending (winners_of numbers)

-- and the price is 0 where all win
pub record IsUniformCase (inputs : ℕ) (numbers : List ℕ) : Type 0 where
  pub limits : IsUniformInLimits inputs numbers
  pub all_win_for_0 : ((position : ℕ) → ¬ IsLoser inputs (winners_of numbers) position)
      → price_of numbers ≡ 0

-- what the plan shows of the bids
pub record IsUniformClaim (inputs : ℕ) (numbers bids : List ℕ) : Type 0 where
  pub one_each : length bids ≡ inputs
  pub within_width : All (λ bid. bid < 2 ^ width_of numbers) bids
  pub outcome : IsUniformOutcome bids (winners_of numbers) (price_of numbers)

-- Y, the copy of the bid at a position: its wire
abbrev pub copy_at : ℕ → ℕ → ℕ
copy_at inputs position = inputs + (position - 1)

-- the copy of the bid at a place
abbrev pub bid_form : ℕ → ℕ → Form
bid_form inputs place = record { terms = plus (inputs + place) ∷ []; constant = 0 }

-- a winner's Y less a loser's, and less 1 where the loser stands before
abbrev pub win_form : ℕ → ℕ → ℕ → Form
win_form inputs winner loser =
    difference_form (copy_at inputs winner) (copy_at inputs loser) (nat_lt loser winner)

-- the price less a loser's Y
abbrev pub price_form : ℕ → ℕ → ℕ → Form
price_form inputs price loser =
    record { terms = minus (copy_at inputs loser) ∷ []; constant = price }

-- the copies; each winner's Y less each loser's, winner by winner; and the price less each loser's
abbrev pub bid_forms : ℕ → List Form
bid_forms inputs = listed (bid_form inputs) inputs

abbrev pub win_forms : ℕ → List ℕ → List Form
win_forms inputs numbers =
    flat_map (λ winner. map (win_form inputs winner) (losers_of inputs numbers))
    (winners_of numbers)

abbrev pub price_forms : ℕ → List ℕ → List Form
price_forms inputs numbers = map (price_form inputs (price_of numbers)) (losers_of inputs numbers)

-- what is of the width, in order
abbrev pub uniform_forms : ℕ → List ℕ → List Form
uniform_forms inputs numbers =
    bid_forms inputs ++ win_forms inputs numbers ++ price_forms inputs numbers

abbrev pub uniform_ranges : ℕ → List ℕ → Ranges
uniform_ranges inputs numbers = ranges_of (uniform_forms inputs numbers) (width_of numbers)

-- one of the losers' Y is the price
abbrev pub price_selection : ℕ → List ℕ → SelectedIs
price_selection inputs numbers =
    record {
      wires = map (copy_at inputs) (losers_of inputs numbers);
      value = price_of numbers;
      width = width_of numbers;
    }

-- a plan with the wires and rows of a selection at its end
abbrev pub with_selection : PlanValue → SelectedIs → PlanValue
with_selection plan relation =
    extended plan (selected_wires relation) (selected_rows relation (length plan.kinds))

-- The rows, in order: each bid is its copy; each form is of the width; and, where somebody loses,
-- one selector is 1, and what it selects is at least the price.
unfoldable pub uniform_plan : ℕ → List ℕ → PlanValue
uniform_plan inputs numbers =
    let plan = ranged_plan inputs (uniform_ranges inputs numbers) in
    if length (losers_of inputs numbers) == 0 then plan else with_selection plan
    (price_selection inputs numbers)

-- the bids, their copies, and the values of the sets: each pair has its weight where that bit of
-- its set's form is set; and where somebody loses, the selector of the first loser who holds the
-- price is 1
unfoldable pub uniform_values : ℕ → List ℕ → List ℕ → List ℕ
uniform_values inputs numbers bids =
    let before = ranged_values bids (uniform_ranges inputs numbers) in
    if length (losers_of inputs numbers) == 0 then before else before ++ selected_values
    (price_selection inputs numbers) before

-- how many wires it has, and how many rows
abbrev pub wire_count : ℕ → List ℕ → ℕ
wire_count inputs numbers =
    let winning = length (winners_of numbers) in
    let losing = length (losers_of inputs numbers) in
    2 * inputs + losing + width_of numbers * (inputs + winning * losing + 2 * losing)

abbrev pub row_count : ℕ → List ℕ → ℕ
row_count inputs numbers =
    let winning = length (winners_of numbers) in
    let losing = length (losers_of inputs numbers) in
    2 * inputs + winning * losing + 2 * losing + (if losing == 0 then 0 else 1)
