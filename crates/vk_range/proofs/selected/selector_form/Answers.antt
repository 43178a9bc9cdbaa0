use Rattle.std.proofs.Common.{◌+◌, []}
use Rattle.vk_range.specs.Sets.{plus}
use Rattle.vk_range.specs.SetLaws.{listed_push}
use Rattle.vk_range.proofs.selected.selector_form.Goals as goal

pub loop-place-preserved : goal.loop-place-preserved
loop-place-preserved c =
    listed_push (λ place. plus (c.args.start + place)) [] c.loop-place.terms.items
    c.push.new.self.items c.plus_wire.result c.loop-place.place
    c.in_ok-push.ensures.items c.loop-place.invariant c.plus_wire.ensures
