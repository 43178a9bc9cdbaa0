use Rattle.vk_house.proofs.Seeds.{no_tapes, call_tapes, answer_not_dry}
use Rattle.vk_house.proofs.laws.kept_seeds_are_not_dry.Goals as goal

pub returns : goal.returns
returns c = record { none = no_tapes; call = call_tapes; answer = answer_not_dry }
