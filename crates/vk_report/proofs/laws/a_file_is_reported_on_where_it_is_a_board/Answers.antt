use Rattle.vk_report.proofs.Meaning.{reported, is_reported}
use Rattle.vk_report.proofs.laws.a_file_is_reported_on_where_it_is_a_board.Goals as goal

pub returns : goal.returns
returns c files name report = (reported files name report, is_reported files name report)
