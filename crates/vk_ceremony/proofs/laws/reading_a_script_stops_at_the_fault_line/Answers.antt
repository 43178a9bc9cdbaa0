use Rattle.vk_ceremony.proofs.Agreeing.{script_fault}
use Rattle.vk_ceremony.proofs.laws.reading_a_script_stops_at_the_fault_line.Goals as goal

pub returns : goal.returns
returns c = script_fault
