use Rattle.std.proofs.Common.{◌≡◌, length, sym, ap, ◌∙◌, arith}
use Rattle.vk_plan.specs.Plans.{PlanValue}
use Rattle.vk_range.specs.Ranged.{ranged_plan}
use Rattle.vk_range.specs.RangedLaws.{ranged_wires}
use Rattle.vk_uniform.specs.UniformPlans.{price_selection, uniform_plan, uniform_ranges, with_selection}
use Rattle.vk_uniform.specs.UniformLaws.{plan_alone, plan_many, uniform_ranged, selection_fits, selection_room, uniform_wires, uniform_rows}
use Rattle.vk_uniform.specs.Circuits.{inputs_of, numbers_of, none_loses, tested_loses}
use Rattle.vk_uniform.proofs.circuit.UniformPlanCircuit.plan.Goals as goal
use Rattle.vk_uniform.proofs.circuit.UniformPlanCircuit.plan.Goals.{After-drop-ranges-then-is_empty, After-drop-ranges-2}

pub ranged_plan-requires : goal.ranged_plan-requires
ranged_plan-requires c =
    let s = c.args.self.now in
    rw c.in_ok-ranges.ensures (uniform_ranged (inputs_of s) (numbers_of s) s.in_limits)

alone : (c : After-drop-ranges-then-is_empty) → c.in_ok-plan.plan
    ≡ uniform_plan (inputs_of c.args.self.now) (numbers_of c.args.self.now)
alone c =
    let s = c.args.self.now in
    c.in_ok-plan.ensures ∙ ap (ranged_plan s.inputs) c.in_ok-ranges.ensures
    ∙ sym (plan_alone (inputs_of s) (numbers_of s)
    (none_loses s (c.is_empty.ensures.0 c.if-is_empty.true)))

pub returns-then-is_empty-clause-plan : goal.returns-then-is_empty-clause-plan
returns-then-is_empty-clause-plan c = alone c

pub returns-then-is_empty-clause-wires : goal.returns-then-is_empty-clause-wires
returns-then-is_empty-clause-wires c =
    let s = c.args.self.now in
    ap (λ (p : PlanValue). length p.kinds) (alone c) ∙ uniform_wires (inputs_of s) (numbers_of s)

pub returns-then-is_empty-clause-rows : goal.returns-then-is_empty-clause-rows
returns-then-is_empty-clause-rows c =
    let s = c.args.self.now in
    ap (λ (p : PlanValue). length p.rows) (alone c) ∙ uniform_rows (inputs_of s) (numbers_of s)

pub add-requires-clause-fits : goal.add-requires-clause-fits
add-requires-clause-fits c =
    let s = c.args.self.now in
    let some = tested_loses s c.is_empty.result c.is_empty.ensures.1 c.if-is_empty.false in
    rw (c.in_ok-selection.ensures, c.in_ok-plan.ensures, c.in_ok-ranges.ensures)
    (selection_fits (inputs_of s) (numbers_of s) s.in_limits _
    (omega (arith, ranged_wires s.inputs (uniform_ranges (inputs_of s) (numbers_of s)))) some)

pub add-requires-clause-room : goal.add-requires-clause-room
add-requires-clause-room c =
    let s = c.args.self.now in
    let some = tested_loses s c.is_empty.result c.is_empty.ensures.1 c.if-is_empty.false in
    rw (c.in_ok-selection.ensures, c.in_ok-plan.ensures, c.in_ok-ranges.ensures)
    (selection_room (inputs_of s) (numbers_of s) s.in_limits some)

many : (c : After-drop-ranges-2) → c.add.new.plan
    ≡ uniform_plan (inputs_of c.args.self.now) (numbers_of c.args.self.now)
many c =
    let s = c.args.self.now in
    let some = tested_loses s c.is_empty.result c.is_empty.ensures.1 c.if-is_empty.false in
    let added : c.add.new.plan ≡ with_selection
    (ranged_plan s.inputs (uniform_ranges (inputs_of s) (numbers_of s)))
    (price_selection (inputs_of s) (numbers_of s)) =
    rw (c.in_ok-selection.ensures, c.in_ok-plan.ensures, c.in_ok-ranges.ensures) at
    c.in_ok-add.ensures.added in
    added ∙ sym (plan_many (inputs_of s) (numbers_of s) some)

pub returns-clause-plan : goal.returns-clause-plan
returns-clause-plan c = many c

pub returns-clause-wires : goal.returns-clause-wires
returns-clause-wires c =
    let s = c.args.self.now in
    ap (λ (p : PlanValue). length p.kinds) (many c) ∙ uniform_wires (inputs_of s) (numbers_of s)

pub returns-clause-rows : goal.returns-clause-rows
returns-clause-rows c =
    let s = c.args.self.now in
    ap (λ (p : PlanValue). length p.rows) (many c) ∙ uniform_rows (inputs_of s) (numbers_of s)
