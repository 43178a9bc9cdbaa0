use Rattle.std.proofs.Common.{[], ◌+◌, refl}
use Rattle.vk_range.specs.SetLaws.{listed_push}
use Rattle.vk_uniform.proofs.outcomes.positions.Goals as goal

pub loop-place-preserved : goal.loop-place-preserved
loop-place-preserved c =
    listed_push (λ place. place + 1) [] c.loop-place.all.items c.push.new.self.items
    (c.loop-place.place + 1) c.loop-place.place
    c.in_ok-push.ensures.items c.loop-place.invariant refl
