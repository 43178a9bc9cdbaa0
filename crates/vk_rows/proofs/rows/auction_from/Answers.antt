use Rattle.std.proofs.Common.{◌≡◌, None, subst, rules}
use Rattle.vk_keeper.specs.Auctions.{IsAuction}
use Rattle.vk_rows.proofs.Exact.{one_whole}
use Rattle.vk_rows.proofs.Misses.{nowhere}
use Rattle.vk_rows.proofs.rows.auction_from.Goals as goal

pub returns-in_err-auction-clause-exact : goal.returns-in_err-auction-clause-exact
returns-in_err-auction-clause-exact c =
    let none : c.in_phase.result ≡ None = search rules in
    let taking = c.in_ok-taking.ensures in
    let joined = c.in_ok-joined.ensures in
    let phase = c.in_ok-phase.ensures in
    nowhere _ c.from_residual-in_err-auction.result (λ auction there.
    c.in_phase.ensures.exact none
    (subst IsAuction
    (one_whole c.args.id.now c.args.head.now c.args.terms.now c.args.seals.now auction
    c.in_ok-taking.taking c.in_ok-joined.joined c.in_ok-phase.phase there.0 there.1 taking.id
    taking.size taking.terms joined.right joined.same joined.shown phase.right phase.shown)
    there.0.right))
