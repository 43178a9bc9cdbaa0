use Rattle.vk_board.proofs.Faults.{board_fault}
use Rattle.vk_board.proofs.laws.reading_a_board_stops_at_the_fault_line.Goals as goal

pub returns : goal.returns
returns c shape bytes = board_fault shape bytes
