use Rattle.std.proofs.Common.{arith}
use Rattle.vk_vickrey.specs.OutcomeLaws.{outcome_is_one}
use Rattle.vk_job.specs.Outcome.{outcome_of}
use Rattle.vk_job.proofs.Outcomes.{outcome_is_vickrey}
use Rattle.vk_job.proofs.laws.outcomes_are_by_maxima.Goals as goal

pub returns-clause-outcome : goal.returns-clause-outcome
returns-clause-outcome c = outcome_is_vickrey

pub returns-clause-no_other : goal.returns-clause-no_other
returns-clause-no_other c bids winner price is =
    outcome_is_one bids winner price (outcome_of bids).position (outcome_of bids).price is
    (outcome_is_vickrey bids (omega (arith, is.is_position.some, is.is_position.within)))
