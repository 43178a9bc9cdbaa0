use Rattle.vk_range.specs.SetLaws.{listed_push}
use Rattle.vk_uniform.specs.UniformPlans.{bid_form}
use Rattle.vk_uniform.proofs.forms.push_bids.Goals as goal

pub loop-place-preserved : goal.loop-place-preserved
loop-place-preserved c =
    listed_push (bid_form c.args.inputs) c.args.forms.now.items c.loop-place.forms.items
    c.push.new.self.items c.in_ok-form.form c.loop-place.place
    c.in_ok-push.ensures.items c.loop-place.invariant c.in_ok-form.ensures
