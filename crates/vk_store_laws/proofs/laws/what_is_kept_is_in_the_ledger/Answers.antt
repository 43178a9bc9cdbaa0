use Rattle.sqlite.specs.Held.{state}
use Rattle.vk_store_laws.proofs.Kept.{kept_stands}
use Rattle.vk_store_laws.proofs.Modelled.{kept_is_told}
use Rattle.vk_store_laws.proofs.laws.what_is_kept_is_in_the_ledger.Goals as goal

pub returns : goal.returns
returns g c old auction whole ledger right store tells keeps =
    let made = kept_stands g.S.Store auction old whole store right.held.few_seals keeps in (
      made.0.store,
      kept_is_told (state g.S.Store old).now.trees whole.trees ledger auction right tells
          made.0.others made.1,
    )
