use Rattle.vk_store_laws.proofs.Runs.{found_for_ever}
use Rattle.vk_store_laws.proofs.laws.what_is_answered_is_found_for_ever.Goals as goal

pub returns : goal.returns
returns g c old_acts old new last ledger id held challenge answer tells has answered spares ran did =
    found_for_ever g.S.Store g.met.S.Store.settled old_acts old new last ledger id held challenge
    answer tells has answered spares ran did
