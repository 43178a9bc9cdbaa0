use Rattle.sqlite.specs.Held.{state}
use Rattle.vk_store_laws.proofs.Standing.{found_stands, both_of}
use Rattle.vk_store_laws.proofs.Modelled.{found_is_told}
use Rattle.vk_store_laws.proofs.laws.what_is_answered_is_what_the_ledger_has.Goals as goal

pub returns : goal.returns
returns g c old id found ledger bytes store tells own right finds =
    found_is_told (state g.S.Store old).now.trees ledger id found bytes tells right
    (found_stands g.S.Store id old found store.schema (both_of id found own right) finds)
