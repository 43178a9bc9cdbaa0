use Rattle.std.proofs.Common.{[], ◌∙◌}
use Rattle.vk_wire.specs.Opened.{entry_made, opened_by, opened_entry}
use Rattle.vk_wire.specs.declared.wire.Shown.{Shown}
use Rattle.vk_wire.specs.declared.wire.Shown.TheVariants.{Half}
use Rattle.vk_wire.specs.declared.hashing.Which.TheVariants.{First, Last}
use Rattle.vk_wire.proofs.FourWires.{zip2_four}
use Rattle.vk_wire.proofs.hashing.hash_four.Goals as goal

pub returns : goal.returns
unfolding opened_by
returns c =
    let nothing : Shown = Half (record { key = []; value = 0 }) in
    let places = c.args.places.now in
    let shown = c.args.shown.now in
    let whole = zip2_four (λ place s. opened_by place s c.args.bit) nothing nothing nothing nothing
    places shown c.told-places c.type_inv.shown in
    let firsts = zip2_four (λ place s. entry_made place (opened_entry s c.args.bit First)) nothing
    nothing nothing nothing places shown c.told-places c.type_inv.shown in
    let lasts = zip2_four (λ place s. entry_made place (opened_entry s c.args.bit Last)) nothing
    nothing nothing nothing places shown c.told-places c.type_inv.shown in
    rw (whole, c.hash_each-firsts.ensures ∙ firsts, c.hash_lasts-lasts.ensures ∙ lasts)
