use Rattle.vk_store_laws.proofs.Once.{stands_one}
use Rattle.vk_store_laws.proofs.laws.what_stands_under_an_id_is_one_auction.Goals as goal

pub returns : goal.returns
returns c = stands_one
