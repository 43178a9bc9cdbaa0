use Rattle.vk_honest.proofs.Accepted.{answers_are_accepted}
use Rattle.vk_honest.proofs.laws.an_honest_answer_is_accepted.Goals as goal

pub returns : goal.returns
returns c = answers_are_accepted
