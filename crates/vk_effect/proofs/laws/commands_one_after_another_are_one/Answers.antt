use Rattle.vk_effect.proofs.Sequences.{are_one}
use Rattle.vk_effect.proofs.laws.commands_one_after_another_are_one.Goals as goal

pub returns : goal.returns
returns c = are_one
