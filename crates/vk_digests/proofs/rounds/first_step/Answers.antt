use Rattle.std.proofs.Common.{refl}
use Rattle.sha2.proofs.Schedule256.{rounds_first}
use Rattle.vk_digests.specs.Lanes.{lane}
use Rattle.vk_digests.proofs.Lanes.{lane_at}
use Rattle.vk_digests.proofs.rounds.first_step.Goals as goal

pub returns : goal.returns
returns c = λ j lt b h window held.
    rounds_first b h (lane j c.args.w.now) (lane j c.args.v) c.args.t _ _ _ c.requires window held
    refl
    (rw lane_at refl) (c.round.ensures j lt)
