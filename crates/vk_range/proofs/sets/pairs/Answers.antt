use Rattle.std.proofs.Common.{[], refl}
use Rattle.vk_plan.specs.declared.wire.WireKind.TheVariants.{Pair}
use Rattle.vk_range.specs.SetLaws.{listed_push}
use Rattle.vk_range.proofs.sets.pairs.Goals as goal

pub loop-i-preserved : goal.loop-i-preserved
loop-i-preserved c =
    listed_push Pair [] c.loop-i.kinds.items c.push.new.self.items (Pair c.loop-i.i) c.loop-i.i
    c.in_ok-push.ensures.items c.loop-i.invariant refl
