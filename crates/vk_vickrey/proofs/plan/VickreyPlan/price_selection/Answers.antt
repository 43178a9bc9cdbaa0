use Rattle.std.proofs.Common.{◌+◌, ◌-◌, []}
use Rattle.vk_range.specs.SetLaws.{listed_push}
use Rattle.vk_range.specs.Others.{other}
use Rattle.vk_vickrey.proofs.plan.VickreyPlan.price_selection.Goals as goal

pub loop-k-preserved : goal.loop-k-preserved
loop-k-preserved c =
    listed_push (λ k. c.args.self.now.seals + other (c.args.self.now.position - 1) k) []
    c.loop-k.wires.items c.push.new.self.items c.other_copy.result c.loop-k.k
    c.in_ok-push.ensures.items c.loop-k.invariant
    (rw c.winner.ensures.value at c.other_copy.ensures)
