use Rattle.vk_seal.proofs.Tapes.{below_width}
use Rattle.vk_seal.proofs.making.make_seal.Goals as goal

pub seal_tapes-made-requires-clause-small_bid : goal.seal_tapes-made-requires-clause-small_bid
seal_tapes-made-requires-clause-small_bid g c =
    below_width c.args.bid c.args.width c.if-bid-width.false c.requires.most_width
