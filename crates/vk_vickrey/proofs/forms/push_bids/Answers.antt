use Rattle.vk_range.specs.SetLaws.{listed_push}
use Rattle.vk_vickrey.specs.VickreyPlans.{bid_form}
use Rattle.vk_vickrey.proofs.forms.push_bids.Goals as goal

pub loop-j-preserved : goal.loop-j-preserved
loop-j-preserved c =
    listed_push (bid_form c.args.seals) c.args.forms.now.items c.loop-j.forms.items
    c.push.new.self.items c.in_ok-form.form c.loop-j.j
    c.in_ok-push.ensures.items c.loop-j.invariant c.in_ok-form.ensures
