use Rattle.vk_ceremony.proofs.Agreeing.{script_says}
use Rattle.vk_ceremony.proofs.laws.a_script_says_the_commands_of_its_text.Goals as goal

pub returns : goal.returns
returns c = script_says
