use Rattle.vk_auctioneer.proofs.Words.{house_bytes}
use Rattle.vk_ceremony.proofs.Standing.{orders_are, performs_right, right_within}
use Rattle.vk_ceremony.proofs.laws.a_ledger_stays_one_through_commands.Goals as goal

pub returns : goal.returns
returns c = assumption (performs_right, right_within, orders_are, house_bytes)
