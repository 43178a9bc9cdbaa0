use Rattle.vk_board.proofs.Forms.{seals_are_part}
use Rattle.vk_board.proofs.laws.seals_are_read_from_their_texts_alone.Goals as goal

pub returns : goal.returns
returns c head right = seals_are_part head
