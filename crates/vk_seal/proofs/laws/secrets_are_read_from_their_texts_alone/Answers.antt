use Rattle.vk_seal.proofs.Forms.{secret_is_whole}
use Rattle.vk_seal.proofs.laws.secrets_are_read_from_their_texts_alone.Goals as goal

pub returns : goal.returns
returns c = secret_is_whole
