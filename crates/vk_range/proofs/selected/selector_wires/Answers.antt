use Rattle.std.proofs.Common.{[], refl}
use Rattle.vk_plan.specs.declared.wire.WireKind.TheVariants.{Pair}
use Rattle.vk_range.specs.SetLaws.{listed_push}
use Rattle.vk_range.proofs.selected.selector_wires.Goals as goal

pub loop-place-preserved : goal.loop-place-preserved
loop-place-preserved c =
    listed_push (λ _. Pair 0) [] c.loop-place.kinds.items c.push.new.self.items (Pair 0)
    c.loop-place._place c.in_ok-push.ensures.items c.loop-place.invariant refl
