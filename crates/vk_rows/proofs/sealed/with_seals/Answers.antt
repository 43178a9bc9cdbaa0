use Rattle.std.proofs.Common.{◌≡◌, ◌+◌, [], ◌∷◌, ◌++◌, length, sym, subst, rules}
use Rattle.vk_keeper.specs.declared.auction.Auction.{Auction}
use Rattle.vk_keeper.specs.declared.auction.SealRow.{SealRow}
use Rattle.vk_keeper.specs.Auctions.{IsAuction}
use Rattle.vk_keeper.specs.Joining.{with_last}
use Rattle.vk_rows.specs.Columns.{IsStored, ShowsSeal, seal_texts}
use Rattle.vk_rows.proofs.Exact.{next_is, one_kept}
use Rattle.vk_rows.proofs.Lists.{show_read}
use Rattle.vk_rows.proofs.Misses.{passed, where_failed}
use Rattle.vk_rows.proofs.sealed.with_seals.Goals as goal

pub loop-row-preserved : goal.loop-row-preserved
loop-row-preserved c =
    let before = c.loop-row.auction in
    let kept = c.in_ok-row.row in
    let joined : c.join.new.auction ≡ with_last before kept = search rules in
    record {
      right = c.join.ensures.right;
      same = search rules;
      shown = rw joined (show_read c.args.rows.now before.seals c.loop-row.row-index
          c.row-item.result kept c.loop-row-test.true c.row-item.is c.loop-row.invariant.shown
          (rw c.len-position.ensures at c.in_ok-row.ensures.shown));
    }

pub returns-in_err-row-clause-exact : goal.returns-in_err-row-clause-exact
returns-in_err-row-clause-exact c =
    let before = c.loop-row.auction in
    let held = c.loop-row.invariant in
    passed (λ (kept : SealRow).
    IsStored kept × ShowsSeal c.row-item.result (length before.seals + 1) (seal_texts kept))
    _ c.seal_row_from.result c.from_residual.result (search rules)
    (rw c.len-position.ensures at c.seal_row_from.ensures.exact)
    (λ seals there.
    let next = next_is before seals c.args.rows.now c.loop-row.row-index c.row-item.result
    c.loop-row-test.true c.row-item.is (search rules) held.right held.shown
    (subst (λ (a : Auction). IsAuction (record a { seals = seals })) (sym held.same) there.0)
    there.1 in
    (next.kept, (next.stored, next.here)))

pub returns-in_err-join-clause-exact : goal.returns-in_err-join-clause-exact
returns-in_err-join-clause-exact c =
    let before = c.loop-row.auction in
    let held = c.loop-row.invariant in
    where_failed _ c.from_residual-in_err-join.result (λ failed seals there.
    let next = next_is before seals c.args.rows.now c.loop-row.row-index c.row-item.result
    c.loop-row-test.true c.row-item.is (search rules) held.right held.shown
    (subst (λ (a : Auction). IsAuction (record a { seals = seals })) (sym held.same) there.0)
    there.1 in
    let same : next.kept ≡ c.in_ok-row.row =
    one_kept c.row-item.result (length before.seals + 1) next.kept c.in_ok-row.row next.stored
    c.in_ok-row.ensures.right next.here
    (rw c.len-position.ensures at c.in_ok-row.ensures.shown) in
    c.join.ensures.exact (search (rules, failed))
    (subst (λ (row : SealRow). IsAuction (record before { seals = before.seals ++ row ∷ [] })) same
    next.joined))
