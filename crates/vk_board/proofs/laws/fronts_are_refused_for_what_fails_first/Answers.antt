use Rattle.vk_board.proofs.FrontLaws.{fronts_refused}
use Rattle.vk_board.proofs.laws.fronts_are_refused_for_what_fails_first.Goals as goal

pub returns : goal.returns
returns c = fronts_refused
