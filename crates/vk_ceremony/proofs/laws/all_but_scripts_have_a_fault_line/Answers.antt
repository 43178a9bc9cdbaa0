use Rattle.vk_ceremony.proofs.Agreeing.{scripts_agree}
use Rattle.vk_ceremony.proofs.laws.all_but_scripts_have_a_fault_line.Goals as goal

pub returns : goal.returns
returns c = scripts_agree
