use Rattle.vk_coins.proofs.JoinEnds.{joins_exactly}
use Rattle.vk_coins.proofs.laws.a_coin_is_joined_where_its_shares_open_its_parts.Goals as goal

pub returns : goal.returns
returns c = joins_exactly
