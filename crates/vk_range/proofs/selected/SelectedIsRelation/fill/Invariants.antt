use Rattle.std.proofs.Common.{◌≡◌, ◌++◌, length}
use Rattle.vk_range.specs.Sets.{joined}
use Rattle.vk_range.specs.Selected.{selectors, place_parts}
use Rattle.vk_range.proofs.selected.SelectedIsRelation.fill.Given as goal

abbrev pub invariant-loop-place : goal.invariant-loop-place
invariant-loop-place l =
    l.values.items ≡ l.fn.values.items
    ++ (selectors (length l.self.wires) l.selected
    ++ joined (place_parts l.self l.fn.values.items l.selected) l.place)
