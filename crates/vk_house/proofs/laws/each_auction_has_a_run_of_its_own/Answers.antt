use Rattle.vk_house.proofs.Alone.{run_alone}
use Rattle.vk_house.proofs.laws.each_auction_has_a_run_of_its_own.Goals as goal

pub returns : goal.returns
returns c = run_alone
