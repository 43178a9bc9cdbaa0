use Rattle.vk_job.proofs.Sales.{sale_is, sale_same, sale_without}
use Rattle.vk_job.proofs.laws.sales_are_by_maxima.Goals as goal

pub returns-clause-sale : goal.returns-clause-sale
returns-clause-sale c = sale_is

pub returns-clause-no_other : goal.returns-clause-no_other
returns-clause-no_other c = sale_same

pub returns-clause-first : goal.returns-clause-first
returns-clause-first c = sale_without
