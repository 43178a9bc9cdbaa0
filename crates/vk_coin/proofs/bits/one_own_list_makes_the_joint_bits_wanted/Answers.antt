use Rattle.vk_coin.proofs.Xors.{joint_count, own_is_that, that_makes_them}
use Rattle.vk_coin.proofs.bits.one_own_list_makes_the_joint_bits_wanted.Goals as goal

pub returns-clause-one : goal.returns-clause-one
returns-clause-one c before after own wanted long have = (
  own_is_that before after own wanted long have,
  that_makes_them before after own wanted long have,
)

pub returns-clause-as_many : goal.returns-clause-as_many
returns-clause-as_many c wanted others = joint_count wanted others
