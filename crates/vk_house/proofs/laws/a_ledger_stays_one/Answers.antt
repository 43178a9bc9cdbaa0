use Rattle.vk_house.proofs.Rights.{no_auctions, call_right}
use Rattle.vk_house.proofs.laws.a_ledger_stays_one.Goals as goal

pub returns : goal.returns
returns c = record { none = no_auctions; call = call_right }
