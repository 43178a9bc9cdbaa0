use Rattle.vk_digests.proofs.Lanes.{lane_at}
use Rattle.vk_digests.proofs.rounds.add_state.Goals as goal

pub returns : goal.returns
returns c j lt =
    simp (
      lane_at,
      c.add.ensures j lt,
      c.add-2.ensures j lt,
      c.add-3.ensures j lt,
      c.add-4.ensures j lt,
      c.add-5.ensures j lt,
      c.add-6.ensures j lt,
      c.add-7.ensures j lt,
      c.add-8.ensures j lt,
    )
