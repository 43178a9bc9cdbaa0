use Rattle.std.proofs.Common.{◌≡◌, ◌++◌, sym, ap, ◌∙◌, arith}
use Rattle.std.proofs.lemmas.Bool.{both_ways}
use Rattle.vk_range.specs.Ranged.{ranged_plan, ranged_values}
use Rattle.vk_range.specs.Selected.{selected_values}
use Rattle.vk_range.specs.RangedLaws.{ranged_wires}
use Rattle.vk_uniform.specs.UniformPlans.{price_selection, uniform_ranges, uniform_values}
use Rattle.vk_uniform.specs.UniformLaws.{values_alone, values_many, uniform_filled, selection_fits, ranged_holds, begins_ranged, may_be_selected}
use Rattle.vk_uniform.specs.UniformSelectors.{filled_selector}
use Rattle.vk_uniform.specs.Circuits.{inputs_of, numbers_of, none_loses, some_loses}
use Rattle.vk_uniform.proofs.circuit.UniformPlanCircuit.fill.Goals as goal
use Rattle.vk_uniform.proofs.circuit.UniformPlanCircuit.fill.Goals.{After-drop-ranges-then-is_empty, After-drop-ranges-2}

pub ranged_values-requires : goal.ranged_values-requires
ranged_values-requires c =
    let s = c.args.self.now in
    rw c.in_ok-ranges.ensures
    (uniform_filled (inputs_of s) (numbers_of s) c.args.inputs.now s.in_limits c.requires)

pub fill-requires-clause-fits : goal.fill-requires-clause-fits
fill-requires-clause-fits c =
    let s = c.args.self.now in
    let ranges = uniform_ranges (inputs_of s) (numbers_of s) in
    let some =
    some_loses s (λ none. both_ways c.is_empty.result c.if-is_empty.false
    (c.is_empty.ensures.1 none)) in
    rw (c.in_ok-selection.ensures, c.in_ok-values.ensures, c.in_ok-ranges.ensures) (
      ranged_plan s.inputs ranges,
      (
        selection_fits (inputs_of s) (numbers_of s) s.in_limits _
            (omega (arith, ranged_wires s.inputs ranges)) some,
        sym (ranged_holds (inputs_of s) (numbers_of s) c.args.inputs.now s.in_limits
            c.requires).one_each,
      ),
    )

pub fill-requires-clause-true_of : goal.fill-requires-clause-true_of
fill-requires-clause-true_of c =
    let s = c.args.self.now in
    let bids = c.args.inputs.now in
    let some =
    some_loses s (λ none. both_ways c.is_empty.result c.if-is_empty.false
    (c.is_empty.ensures.1 none)) in
    rw (c.in_ok-selection.ensures, c.in_ok-values.ensures, c.in_ok-ranges.ensures)
    (may_be_selected (inputs_of s) (numbers_of s) bids
    (ranged_values bids (uniform_ranges (inputs_of s) (numbers_of s))) s.in_limits c.requires
    (begins_ranged (inputs_of s) (numbers_of s) bids s.in_limits c.requires) some)

alone : (c : After-drop-ranges-then-is_empty) → c.in_ok-values.values.items
    ≡ uniform_values (inputs_of c.args.self.now) (numbers_of c.args.self.now) c.args.inputs.now
alone c =
    let s = c.args.self.now in
    c.in_ok-values.ensures ∙ ap (ranged_values c.args.inputs.now) c.in_ok-ranges.ensures
    ∙ sym (values_alone (inputs_of s) (numbers_of s) c.args.inputs.now
    (none_loses s (c.is_empty.ensures.0 c.if-is_empty.true)))

many : (c : After-drop-ranges-2) → c.fill.new.values.items
    ≡ uniform_values (inputs_of c.args.self.now) (numbers_of c.args.self.now) c.args.inputs.now
many c =
    let s = c.args.self.now in
    let some =
    some_loses s (λ none. both_ways c.is_empty.result c.if-is_empty.false
    (c.is_empty.ensures.1 none)) in
    let before = ranged_values c.args.inputs.now (uniform_ranges (inputs_of s) (numbers_of s)) in
    let filled : c.fill.new.values.items ≡ before ++ selected_values
    (price_selection (inputs_of s) (numbers_of s)) before =
    rw (
      c.in_ok-selection.ensures,
      c.in_ok-values.ensures,
      c.in_ok-ranges.ensures,
    ) at c.in_ok-fill.ensures.filled in
    filled ∙ sym (values_many (inputs_of s) (numbers_of s) c.args.inputs.now some)

pub returns-then-is_empty-clause-filled : goal.returns-then-is_empty-clause-filled
returns-then-is_empty-clause-filled c = alone c

pub returns-then-is_empty-clause-selector : goal.returns-then-is_empty-clause-selector
returns-then-is_empty-clause-selector c = λ place first.
    let s = c.args.self.now in
    rw (alone c) (filled_selector (inputs_of s) place
    (numbers_of s) c.args.inputs.now s.in_limits c.requires first)

pub returns-clause-filled : goal.returns-clause-filled
returns-clause-filled c = many c

pub returns-clause-selector : goal.returns-clause-selector
returns-clause-selector c = λ place first.
    let s = c.args.self.now in
    rw (many c) (filled_selector (inputs_of s) place
    (numbers_of s) c.args.inputs.now s.in_limits c.requires first)
