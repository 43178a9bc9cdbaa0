use Rattle.vk_board.proofs.Forms.{head_is_part}
use Rattle.vk_board.proofs.laws.heads_are_read_from_their_texts_alone.Goals as goal

pub returns : goal.returns
returns c = head_is_part
