use Rattle.vk_range.specs.Sets.{listed}
use Rattle.vk_range.specs.SetLaws.{listed_push}
use Rattle.vk_vickrey.specs.VickreyPlans.{bid_form}
use Rattle.vk_vickrey.specs.ReservePlans.{below_form}
use Rattle.vk_vickrey.proofs.forms.unsold_forms.Goals as goal

pub loop-j-preserved : goal.loop-j-preserved
loop-j-preserved c =
    let seals = c.args.seals in
    listed_push (below_form seals c.args.limit) (listed (bid_form seals) seals) c.loop-j.forms.items
    c.push.new.self.items c.in_ok-form.form c.loop-j.j
    c.in_ok-push.ensures.items c.loop-j.invariant (rw (c.neg.ensures) at c.in_ok-form.ensures)
