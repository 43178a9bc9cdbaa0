use Rattle.vk_keeper.proofs.Firsts.{get_lifted, ledger_lifted}
use Rattle.vk_keeper.proofs.laws.a_lifted_ledger_has_each_auction_lifted.Goals as goal

pub returns : goal.returns
returns c = record { each = get_lifted; whole = ledger_lifted }
