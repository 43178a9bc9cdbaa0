use Rattle.std.proofs.Common.{◌-◌, ◌∙◌, sym, ap}
use Rattle.vk_range.specs.Ranged.{ranged_plan}
use Rattle.vk_vickrey.specs.VickreyRanges.{vickrey_ranged, prices_ranged}
use Rattle.vk_vickrey.proofs.plan.VickreyPlan.plan_before_selection.Goals as goal

pub ranged_plan-requires : goal.ranged_plan-requires
ranged_plan-requires c =
    let s = c.args.self.now in
    rw c.in_ok-relation.ensures (vickrey_ranged s.seals s.width s.position s.price s.in_limits)

pub returns : goal.returns
returns c =
    let s = c.args.self.now in
    c.in_ok-plan.ensures ∙ ap (ranged_plan s.seals) c.in_ok-relation.ensures
    ∙ sym (prices_ranged s.seals s.width (s.position - 1) s.price)
