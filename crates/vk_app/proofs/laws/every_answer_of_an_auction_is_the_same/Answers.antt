use Rattle.vk_app.proofs.Answering.{answers_are_accepted, answers_are_one, boards_are_one}
use Rattle.vk_app.proofs.laws.every_answer_of_an_auction_is_the_same.Goals as goal

pub returns : goal.returns
returns c = record {
  answers = answers_are_one;
  boards = boards_are_one;
  accepted = answers_are_accepted;
}
