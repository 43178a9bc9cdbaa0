use Rattle.vk_seal.proofs.Forms.{seal_is_whole}
use Rattle.vk_seal.proofs.laws.seals_are_read_from_their_texts_alone.Goals as goal

pub returns : goal.returns
returns c = seal_is_whole
