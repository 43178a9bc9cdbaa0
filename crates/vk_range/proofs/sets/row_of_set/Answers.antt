use Rattle.std.proofs.Common.{◌+◌}
use Rattle.vk_range.specs.Sets.{minus}
use Rattle.vk_range.specs.SetLaws.{listed_push}
use Rattle.vk_range.proofs.sets.row_of_set.Goals as goal

pub loop-i-preserved : goal.loop-i-preserved
loop-i-preserved c =
    listed_push (λ i. minus (c.args.start + i)) c.args.form.now.terms c.loop-i.terms.items
    c.push.new.self.items c.minus_wire.result c.loop-i.i
    c.in_ok-push.ensures.items c.loop-i.invariant c.minus_wire.ensures
