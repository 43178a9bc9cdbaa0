use Rattle.std.proofs.Common.{subst, sym}
use Rattle.sqlite.specs.Effect.{Database}
use Rattle.sqlite.specs.Held.{state}
use Rattle.vk_keeper_sql.specs.Opening.{Prepares}
use Rattle.vk_store_laws.specs.Telling.{TablesTell}
use Rattle.vk_store_laws.proofs.Crashes.{at_once_alike}
use Rattle.vk_store_laws.proofs.Opening.{prepared_stays}
use Rattle.vk_store_laws.proofs.laws.a_store_that_is_opened_again_tells_its_ledger.Goals as goal

pub returns : goal.returns
returns g c = record {
  same = prepared_stays g.S.Store;
  crash = λ old new ledger result store tells.
      at_once_alike (Prepares g.S.Store old) (λ trees. TablesTell trees ledger)
      (state g.S.Store old) (state g.S.Store new) result
      (λ whole made. subst (λ (d : Database). TablesTell d.trees ledger)
      (sym (prepared_stays g.S.Store old whole store made)) tells);
}
