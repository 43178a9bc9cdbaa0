use Rattle.vk_uniform.specs.OutcomeLaws.{outcome_exists, outcome_is_one}
use Rattle.vk_uniform.proofs.outcomes.one_outcome_for_each_number.Goals as goal

pub returns-clause-outcome : goal.returns-clause-outcome
returns-clause-outcome c = outcome_exists

pub returns-clause-no_other : goal.returns-clause-no_other
returns-clause-no_other c = outcome_is_one
