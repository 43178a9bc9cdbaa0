use Rattle.std.proofs.Common.{rules}
use Rattle.vk_range.specs.Selected.{selector}
use Rattle.vk_range.specs.SetLaws.{listed_push}
use Rattle.vk_range.proofs.selected.push_selectors.Goals as goal

pub loop-place-preserved : goal.loop-place-preserved
loop-place-preserved c =
    listed_push (selector c.args.selected) c.args.values.now.items c.loop-place.values.items
    c.push_or_cut.new.values.items c.selector_of.result c.loop-place.place
    (search rules) c.loop-place.invariant c.selector_of.ensures
