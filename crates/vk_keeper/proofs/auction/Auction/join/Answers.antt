use Rattle.std.proofs.Common.{List, sym, subst}
use Rattle.vk_keeper.specs.Auctions.{IsAuction}
use Rattle.vk_keeper.specs.declared.auction.SealRow.{SealRow}
use Rattle.vk_keeper.proofs.Joins.{may_join}
use Rattle.vk_keeper.proofs.auction.Auction.join.Goals as goal

pub returns-clause-right : goal.returns-clause-right
returns-clause-right c =
    let P : List SealRow → Type 0 = λ seals. IsAuction (record c.args.self.now { seals = seals }) in
    subst P (sym c.in_ok-push.ensures.pushed)
    (may_join c.args.self.now c.args.row c.requires.auction c.requires.seal c.requires.secret
    c.requires.may_join)
