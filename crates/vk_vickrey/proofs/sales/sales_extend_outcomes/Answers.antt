use Rattle.vk_vickrey.specs.SaleLaws.{outcome_is_sale, sale_is_outcome, sale_is_one}
use Rattle.vk_vickrey.specs.OutcomeLaws.{sale_exists}
use Rattle.vk_vickrey.proofs.sales.sales_extend_outcomes.Goals as goal

pub returns-clause-outcome : goal.returns-clause-outcome
returns-clause-outcome c = λ bids winner price.
    (outcome_is_sale bids winner price, sale_is_outcome bids winner price)

pub returns-clause-sale : goal.returns-clause-sale
returns-clause-sale c = sale_exists

pub returns-clause-no_other : goal.returns-clause-no_other
returns-clause-no_other c = sale_is_one
