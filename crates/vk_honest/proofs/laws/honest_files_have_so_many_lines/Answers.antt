use Rattle.vk_honest.proofs.Sizes.{boards_have_lines, lines_are_pieces, replies_have_lines}
use Rattle.vk_honest.proofs.laws.honest_files_have_so_many_lines.Goals as goal

pub returns : goal.returns
returns c = record {
  boards = boards_have_lines;
  replies = replies_have_lines;
  pieces = lines_are_pieces;
}
