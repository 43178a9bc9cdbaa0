use Rattle.std.proofs.Common.{arith}
use Rattle.std.proofs.Math.Pow.{pow_mono}
use Rattle.vk_keeper_sql.proofs.keeping.replace.Goals as goal

pub write_at_once-requires-clause-small : goal.write_at_once-requires-clause-small
write_at_once-requires-clause-small g c =
    omega (
      arith,
      c.requires.terms.small,
      pow_mono {i = c.args.auction.now.width} {j = 40} c.requires.held.size.width.most,
    )
