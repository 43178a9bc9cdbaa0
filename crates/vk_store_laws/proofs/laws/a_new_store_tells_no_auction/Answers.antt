use Rattle.std.specs.FinMap.{empty}
use Rattle.sqlite.specs.Held.{state}
use Rattle.vk_keeper_sql.specs.Opening.{Prepares}
use Rattle.vk_store_laws.specs.Telling.{TablesTell}
use Rattle.vk_store_laws.proofs.Crashes.{at_once_alike}
use Rattle.vk_store_laws.proofs.Making.{made_is_store}
use Rattle.vk_store_laws.proofs.Opening.{prepared_new}
use Rattle.vk_store_laws.proofs.Modelled.{nothing_is_told}
use Rattle.vk_store_laws.proofs.laws.a_new_store_tells_no_auction.Goals as goal

pub returns : goal.returns
returns g c = record {
  made = λ old new blank made.
      let store = made_is_store g.S.Store old new blank made in
      (store.0, nothing_is_told (state g.S.Store new).now.trees store.1 store.2 store.3);
  crash = λ old new result blank.
      at_once_alike (Prepares g.S.Store old) (λ trees. TablesTell trees empty) (state g.S.Store old)
      (state g.S.Store new) result
      (λ whole makes. (prepared_new g.S.Store old whole blank makes).1);
}
