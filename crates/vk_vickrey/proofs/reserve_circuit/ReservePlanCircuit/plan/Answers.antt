use Rattle.std.proofs.Common.{◌∙◌, refl, sym, ap, length}
use Rattle.vk_plan.specs.Plans.{PlanValue}
use Rattle.vk_range.specs.Ranged.{ranged_plan}
use Rattle.vk_vickrey.specs.ReserveLaws.{plan_within, plan_without, sale_ranged, reserve_wires, reserve_rows}
use Rattle.vk_vickrey.proofs.reserve_circuit.ReservePlanCircuit.plan.Goals as goal

pub returns-in-Some-clause-plan : goal.returns-in-Some-clause-plan
returns-in-Some-clause-plan c =
    let s = c.args.self.now in
    let vickrey = c.in-Some.vickrey in
    let above = c.in-Some.ensures.above in
    c.in_ok-plan.ensures.plan
    ∙ plan_without s.seals s.width s.reserve vickrey.position vickrey.price vickrey.seals
    vickrey.width s.sale above.0 above.1 above.2 above.3

pub ranged_plan-requires : goal.ranged_plan-requires
ranged_plan-requires c =
    let s = c.args.self.now in
    rw c.in_ok-ranges.ensures (sale_ranged s.seals s.width s.reserve s.sale s.in_limits)

pub returns-clause-plan : goal.returns-clause-plan
returns-clause-plan c =
    let s = c.args.self.now in
    c.in_ok-plan-2.ensures ∙ ap (ranged_plan s.seals) c.in_ok-ranges.ensures
    ∙ sym (plan_within s.seals s.width s.reserve s.sale (c.in_default.ensures.within refl))

pub returns-clause-wires : goal.returns-clause-wires
returns-clause-wires c =
    let s = c.args.self.now in
    ap (λ (p : PlanValue). length p.kinds) (returns-clause-plan c)
    ∙ reserve_wires s.seals s.width s.reserve s.sale s.in_limits.some_seals

pub returns-clause-rows : goal.returns-clause-rows
returns-clause-rows c =
    let s = c.args.self.now in
    ap (λ (p : PlanValue). length p.rows) (returns-clause-plan c)
    ∙ reserve_rows s.seals s.width s.reserve s.sale s.in_limits.some_seals
