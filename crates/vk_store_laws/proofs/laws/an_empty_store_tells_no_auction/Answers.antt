use Rattle.vk_store_laws.proofs.Modelled.{nothing_is_told}
use Rattle.vk_store_laws.proofs.laws.an_empty_store_tells_no_auction.Goals as goal

pub returns : goal.returns
returns c = nothing_is_told
