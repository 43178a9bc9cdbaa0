use Rattle.vk_keeper.proofs.Orders.{only_these, these_do}
use Rattle.vk_keeper.proofs.laws.one_get_and_then_at_most_one_put.Goals as goal

pub returns : goal.returns
returns c = λ old calls before below. (only_these calls old before below, these_do calls old)
