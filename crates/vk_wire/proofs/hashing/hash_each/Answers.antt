use Rattle.vk_wire.specs.Opened.{entry_made, opened_entry}
use Rattle.vk_wire.proofs.FourWires.{zip2_four}
use Rattle.vk_wire.proofs.hashing.hash_each.Goals as goal

pub returns : goal.returns
returns c =
    let each = zip2_four (λ place s. entry_made place (opened_entry s c.args.bit c.args.which))
    c.index-shown-0.result c.index-shown-1.result c.index-shown-2.result c.index-shown-3.result
    c.args.places.now c.args.shown.now c.told-places c.type_inv.shown in
    rw (
      each,
      c.commit_four.ensures,
      c.opened_entry-opening0.ensures.place,
      c.opened_entry-opening0.ensures.opening,
      c.opened_entry-opening1.ensures.place,
      c.opened_entry-opening1.ensures.opening,
      c.opened_entry-opening2.ensures.place,
      c.opened_entry-opening2.ensures.opening,
      c.opened_entry-opening3.ensures.place,
      c.opened_entry-opening3.ensures.opening,
    )
