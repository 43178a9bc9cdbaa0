use Rattle.vk_coin.proofs.Unmet.{all_gives_none, first_is_found, found_is_first, none_opens_all}
use Rattle.vk_coin.proofs.laws.unmet_parts_are_found.Goals as goal

pub returns-clause-found : goal.returns-clause-found
returns-clause-found c coin auditor is =
    (found_is_first coin auditor, first_is_found coin auditor is)

pub returns-clause-none : goal.returns-clause-none
returns-clause-none c coin is = (none_opens_all coin is, all_gives_none coin)
