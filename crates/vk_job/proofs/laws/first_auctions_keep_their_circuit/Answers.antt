use Rattle.vk_job.proofs.Held.{first_plan_is, first_values_are}
use Rattle.vk_job.proofs.laws.first_auctions_keep_their_circuit.Goals as goal

pub returns-clause-plan : goal.returns-clause-plan
returns-clause-plan c = first_plan_is

pub returns-clause-values : goal.returns-clause-values
returns-clause-values c = first_values_are
