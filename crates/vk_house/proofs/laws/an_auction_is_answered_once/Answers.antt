use Rattle.vk_house.proofs.Once.{call_keeps, run_keeps, keeps_same, keeps_on, answered_once}
use Rattle.vk_house.proofs.laws.an_auction_is_answered_once.Goals as goal

pub returns : goal.returns
returns c = assumption (call_keeps, run_keeps, keeps_same, keeps_on, answered_once)
