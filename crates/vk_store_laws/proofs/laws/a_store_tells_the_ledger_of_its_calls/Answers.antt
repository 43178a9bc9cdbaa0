use Rattle.vk_store_laws.proofs.Runs.{begun_tells, run_tells}
use Rattle.vk_store_laws.proofs.laws.a_store_tells_the_ledger_of_its_calls.Goals as goal

pub returns : goal.returns
returns g c = record {
  begun = λ old new blank clean once. begun_tells g.S.Store old new blank clean once;
  run = λ acts old new ledger ran tells.
      run_tells g.S.Store g.met.S.Store.settled acts old new ledger ran tells;
}
