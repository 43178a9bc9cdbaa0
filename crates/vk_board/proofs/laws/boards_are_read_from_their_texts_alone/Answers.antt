use Rattle.vk_board.proofs.Boards.{board_is_whole}
use Rattle.vk_board.proofs.laws.boards_are_read_from_their_texts_alone.Goals as goal

pub returns : goal.returns
returns c shape = board_is_whole shape
