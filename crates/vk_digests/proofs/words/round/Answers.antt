use Rattle.vk_digests.proofs.Lanes.{lane_at, lane_splat}
use Rattle.vk_digests.proofs.words.round.Goals as goal

pub returns : goal.returns
returns c j lt =
    let splat = lane_splat c.args.k j lt in
    simp (
      lane_at,
      splat,
      c.add-4.ensures j lt,
      c.add-5.ensures j lt,
      c.add-temp1.ensures j lt,
      c.add-3.ensures j lt,
      c.add-2.ensures j lt,
      c.add.ensures j lt,
      c.ch.ensures j lt,
      c.big_sigma1.ensures j lt,
      c.add-temp2.ensures j lt,
      c.maj.ensures j lt,
      c.big_sigma0.ensures j lt,
    )
