use Rattle.std.proofs.Common.{refl, sym, ap, subst, ◌∙◌}
use Rattle.vk_keeper.specs.Kept.{AreKept, entry_of, ledger_in}
use Rattle.vk_keeper.proofs.Places.{kept_set, kept_push}
use Rattle.vk_io.proofs.Places.{put_at, push_at}
use Rattle.vk_keeper.proofs.kept.keep.Goals as goal

pub returns-in-Some-clause-put : goal.returns-in-Some-clause-put
unfolding ledger_in
returns-in-Some-clause-put c =
    put_at entry_of c.args.auctions.now.items c.in-Some.i c.args.auction c.args.auction.id
    (rw c.deref.ensures.value at c.in-Some.ensures.within)
    (rw c.deref.ensures.value at c.in-Some.ensures.before)
    (rw c.deref.ensures.value at c.in-Some.ensures.id) refl

pub returns-in-Some-clause-kept : goal.returns-in-Some-clause-kept
returns-in-Some-clause-kept c =
    kept_set c.args.auctions.now.items c.in-Some.i c.args.auction c.requires.kept c.requires.right
    (rw c.deref.ensures.value at c.in-Some.ensures.id)

pub returns-in_ok-push-in-None-clause-put : goal.returns-in_ok-push-in-None-clause-put
unfolding ledger_in
returns-in_ok-push-in-None-clause-put c =
    ap ledger_in c.in_ok-push-in-None.ensures.items
    ∙ push_at entry_of c.args.auctions.now.items c.args.auction c.args.auction.id
    (rw c.deref.ensures.value at c.in-None.ensures.absent) refl

pub returns-in_ok-push-in-None-clause-kept : goal.returns-in_ok-push-in-None-clause-kept
returns-in_ok-push-in-None-clause-kept c =
    subst AreKept (sym c.in_ok-push-in-None.ensures.items)
    (kept_push c.args.auctions.now.items c.args.auction c.requires.kept c.requires.right
    (rw c.deref.ensures.value at c.in-None.ensures.others))
