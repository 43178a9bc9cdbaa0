use Rattle.vk_judge.proofs.TwoValues.{only_accepted_behind}
use Rattle.vk_judge.proofs.two_laws.only_replies_accepted_behind_a_front_are_found_to_be.Goals as goal

pub returns : goal.returns
returns c = only_accepted_behind
