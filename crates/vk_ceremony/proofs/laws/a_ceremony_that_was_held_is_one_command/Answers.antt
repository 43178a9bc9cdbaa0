use Rattle.vk_ceremony.proofs.Whole.{ceremony_done}
use Rattle.vk_ceremony.proofs.laws.a_ceremony_that_was_held_is_one_command.Goals as goal

pub returns : goal.returns
returns c = ceremony_done
