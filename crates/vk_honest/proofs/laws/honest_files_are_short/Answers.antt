use Rattle.vk_honest.proofs.Sizes.{boards_are_short, challenges_are_short, replies_are_short}
use Rattle.vk_honest.proofs.laws.honest_files_are_short.Goals as goal

pub returns : goal.returns
returns c = record {
  boards = boards_are_short;
  challenges = challenges_are_short;
  replies = replies_are_short;
}
