use Rattle.vk_ceremony.proofs.Standing.{act_same, act_status, act_steps}
use Rattle.vk_ceremony.proofs.laws.an_act_is_a_step_of_the_house.Goals as goal

pub returns : goal.returns
returns c = record { step = act_steps; status = act_status; same = act_same }
