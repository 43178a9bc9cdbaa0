use Rattle.vk_keeper.proofs.Places.{ledger_with}
use Rattle.vk_keeper.proofs.laws.a_ledger_with_an_auction_is_a_ledger.Goals as goal

pub returns : goal.returns
returns c = ledger_with
