use Rattle.std.proofs.Common.{◌-◌, ◌∙◌, sym, ap, arith}
use Rattle.vk_range.specs.Ranged.{ranged_values}
use Rattle.vk_vickrey.specs.VickreyRanges.{values_ranged, forms_fit}
use Rattle.vk_vickrey.proofs.plan.VickreyPlan.values_before_selection.Goals as goal

pub ranged_values-requires : goal.ranged_values-requires
ranged_values-requires c =
    let s = c.args.self.now in
    rw c.in_ok-relation.ensures
    (forms_fit s.seals s.width s.position s.price s.in_limits c.args.bids.now c.requires)

pub returns : goal.returns
returns c =
    let s = c.args.self.now in
    c.in_ok-values.ensures ∙ ap (ranged_values c.args.bids.now) c.in_ok-relation.ensures
    ∙ sym (values_ranged s.seals (s.position - 1)
    (omega (arith, s.in_limits.some_position, s.in_limits.within_seals)) s.width s.price
    c.args.bids.now c.requires.one_each)
