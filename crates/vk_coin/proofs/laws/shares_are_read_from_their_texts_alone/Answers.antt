use Rattle.vk_coin.proofs.Forms.{share_is_whole}
use Rattle.vk_coin.proofs.laws.shares_are_read_from_their_texts_alone.Goals as goal

pub returns : goal.returns
returns c = share_is_whole
