use Rattle.vk_ceremony.proofs.Running.{ceremony_runs}
use Rattle.vk_ceremony.proofs.laws.a_ceremony_is_a_run_of_the_house.Goals as goal

pub returns : goal.returns
returns c = ceremony_runs
