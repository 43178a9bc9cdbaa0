use Rattle.std.proofs.Common.{arith}
use Rattle.vk_range.specs.SelectedLaws.{IsSelection-over, place_pushed}
use Rattle.vk_range.proofs.selected.SelectedIsRelation.fill.Goals as goal

pub loop-place-preserved : goal.loop-place-preserved
loop-place-preserved c =
    place_pushed c.args.self.now c.args.values.now.items c.loop-place.values.items
    c.push_parts.new.values.items c.first_place-selected.result c.loop-place.place
    c.number-number.result (IsSelection-over c.args.self.now c.args.values.now.items
    c.requires.fits) (omega arith) c.loop-place.invariant
    (rw c.as_slice-in-loop-place.ensures.value at c.number-number.ensures)
    c.in_default.ensures.pushed
