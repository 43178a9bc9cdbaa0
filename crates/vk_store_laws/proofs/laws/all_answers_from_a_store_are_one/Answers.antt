use Rattle.vk_store_laws.proofs.Publishing.{answers_are_one, boards_are_one, answers_accepted}
use Rattle.vk_store_laws.proofs.Serving.{serves_as_steps}
use Rattle.vk_store_laws.proofs.laws.all_answers_from_a_store_are_one.Goals as goal

pub returns : goal.returns
returns g c = record {
  steps = serves_as_steps g.S.Store g.met.S.Store.settled;
  answers = answers_are_one g.S.Store g.met.S.Store.settled;
  boards = boards_are_one g.S.Store g.met.S.Store.settled;
  accepted = answers_accepted g.S.Store g.met.S.Store.settled;
}
