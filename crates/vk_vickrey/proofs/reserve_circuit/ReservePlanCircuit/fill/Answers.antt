use Rattle.std.proofs.Common.{◌∙◌, refl, sym, ap}
use Rattle.vk_range.specs.Ranged.{ranged_values}
use Rattle.vk_vickrey.specs.ReserveLaws.{values_within, values_without, sale_filled}
use Rattle.vk_vickrey.proofs.reserve_circuit.ReservePlanCircuit.fill.Goals as goal

pub returns-in-Some : goal.returns-in-Some
returns-in-Some c =
    let s = c.args.self.now in
    let vickrey = c.in-Some.vickrey in
    let above = c.in-Some.ensures.above in
    c.in_ok-values.ensures.filled
    ∙ values_without s.seals s.width s.reserve vickrey.position vickrey.price vickrey.seals
    vickrey.width s.sale c.args.inputs.now above.0 above.1 above.2 above.3

pub ranged_values-requires : goal.ranged_values-requires
ranged_values-requires c =
    let s = c.args.self.now in
    rw c.in_ok-ranges.ensures (sale_filled s.seals s.width s.reserve s.sale c.args.inputs.now
    s.in_limits (c.in_default.ensures.within refl) c.requires)

pub returns : goal.returns
returns c =
    let s = c.args.self.now in
    c.in_ok-values-2.ensures ∙ ap (ranged_values c.args.inputs.now) c.in_ok-ranges.ensures
    ∙ sym (values_within s.seals s.width s.reserve s.sale c.args.inputs.now
    (c.in_default.ensures.within refl))
