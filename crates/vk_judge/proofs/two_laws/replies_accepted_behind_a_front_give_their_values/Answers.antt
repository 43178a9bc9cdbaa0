use Rattle.vk_judge.proofs.TwoValues.{accepted_behind_give}
use Rattle.vk_judge.proofs.two_laws.replies_accepted_behind_a_front_give_their_values.Goals as goal

pub returns : goal.returns
returns c = accepted_behind_give
