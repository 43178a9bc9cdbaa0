use Rattle.vk_coins.proofs.BoardEnds.{derives_exactly}
use Rattle.vk_coins.proofs.laws.a_board_gives_one_challenge.Goals as goal

pub returns : goal.returns
returns c = derives_exactly
