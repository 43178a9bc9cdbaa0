use Rattle.sqlite.specs.Held.{state}
use Rattle.vk_keeper.specs.First.{lifted_ledger}
use Rattle.vk_keeper_sql.specs.Opening.{Prepares}
use Rattle.vk_store_laws.specs.Former.{TellsFirst}
use Rattle.vk_store_laws.specs.Telling.{TablesTell}
use Rattle.vk_store_laws.proofs.Crashes.{at_once}
use Rattle.vk_store_laws.proofs.Lifting.{prepared_tells}
use Rattle.vk_store_laws.proofs.laws.a_store_from_before_tells_its_ledger_lifted.Goals as goal

pub returns : goal.returns
returns g c = record {
  lifted = prepared_tells g.S.Store;
  crash = λ old new firsts result store tells before once clean.
      at_once (Prepares g.S.Store old) (λ trees. TellsFirst trees firsts)
      (λ trees. TablesTell trees (lifted_ledger firsts)) (state g.S.Store old)
      (state g.S.Store new) result
      (λ whole made. (prepared_tells g.S.Store old whole firsts store tells made).1) before once
      clean;
}
