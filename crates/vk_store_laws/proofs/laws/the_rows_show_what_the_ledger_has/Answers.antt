use Rattle.vk_store_laws.proofs.Shown.{not_neither, only_a_query}
use Rattle.vk_store_laws.proofs.laws.the_rows_show_what_the_ledger_has.Goals as goal

pub returns-clause-rows : goal.returns-clause-rows
returns-clause-rows g c old id ledger bytes store tells =
    not_neither g.S.Store id old ledger bytes store tells

pub returns-clause-refused : goal.returns-clause-refused
returns-clause-refused g c old id ledger bytes tells nothing =
    only_a_query g.S.Store id old ledger bytes tells nothing
