use Rattle.std.specs.FinMap.{insert}
use Rattle.sqlite.specs.Held.{state}
use Rattle.vk_keeper_sql.specs.Writing.{Keeps}
use Rattle.vk_store_laws.specs.Telling.{TablesTell}
use Rattle.vk_store_laws.proofs.Crashes.{at_once}
use Rattle.vk_store_laws.proofs.Kept.{kept_stands}
use Rattle.vk_store_laws.proofs.Modelled.{kept_is_told}
use Rattle.vk_store_laws.proofs.laws.a_crash_leaves_the_ledger_of_before_or_after.Goals as goal

pub returns : goal.returns
returns g c old new auction ledger result right store tells before once clean =
    at_once (Keeps g.S.Store auction old) (λ trees. TablesTell trees ledger)
    (λ trees. TablesTell trees (insert ledger auction.id auction)) (state g.S.Store old)
    (state g.S.Store new) result
    (λ whole keeps.
    let made = kept_stands g.S.Store auction old whole store right.held.few_seals keeps in
    kept_is_told (state g.S.Store old).now.trees whole.trees ledger auction right tells
    made.0.others made.1)
    before once clean
