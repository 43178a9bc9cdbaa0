use Rattle.vk_board.proofs.FrontLaws.{fronts_read}
use Rattle.vk_board.proofs.laws.fronts_are_read_from_their_texts_alone.Goals as goal

pub returns : goal.returns
returns c = fronts_read
