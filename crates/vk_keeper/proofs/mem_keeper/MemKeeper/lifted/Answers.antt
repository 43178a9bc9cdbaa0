use Rattle.std.proofs.Common.{sym, subst}
use Rattle.vk_keeper.specs.Kept.{AreKept}
use Rattle.vk_keeper.proofs.Firsts.{kept_lifted}
use Rattle.vk_keeper.proofs.mem_keeper.MemKeeper.lifted.Goals as goal

pub holding-requires : goal.holding-requires
holding-requires c = subst AreKept (sym c.in_ok-auctions.ensures)
    (kept_lifted c.args.firsts.items c.requires.each c.requires.ids)
