use Rattle.vk_lines.proofs.Faults.{faults_all_but_texts}
use Rattle.vk_board.specs.Tables.{board_table}
use Rattle.vk_board.proofs.Boards.{board_is_whole}
use Rattle.vk_board.proofs.Faults.{board_ends}
use Rattle.vk_board.proofs.laws.all_but_boards_have_a_fault_line.Goals as goal

pub returns : goal.returns
returns c shape = faults_all_but_texts (board_table shape) (board_is_whole shape) (board_ends shape)
