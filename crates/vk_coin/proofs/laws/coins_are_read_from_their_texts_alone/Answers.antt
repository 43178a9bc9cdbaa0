use Rattle.vk_coin.proofs.Forms.{coin_is_whole}
use Rattle.vk_coin.proofs.laws.coins_are_read_from_their_texts_alone.Goals as goal

pub returns : goal.returns
returns c = coin_is_whole
