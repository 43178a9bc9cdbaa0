use Rattle.vk_range.specs.SetLaws.{listed_push}
use Rattle.vk_vickrey.specs.VickreyPlans.{price_form}
use Rattle.vk_vickrey.proofs.forms.push_prices.Goals as goal

pub loop-k-preserved : goal.loop-k-preserved
loop-k-preserved c =
    listed_push (price_form c.args.seals c.args.winner c.args.price) c.args.forms.now.items
    c.loop-k.forms.items c.push.new.self.items c.in_ok-form.form c.loop-k.k
    c.in_ok-push.ensures.items c.loop-k.invariant
    (rw (c.neg-minus.ensures, c.other_copy.ensures) at c.in_ok-form.ensures)
