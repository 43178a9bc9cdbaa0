use Rattle.vk_keeper.proofs.Joins.{may_join}
use Rattle.vk_keeper.proofs.laws.what_may_join_makes_an_auction.Goals as goal

pub returns : goal.returns
returns c = may_join
