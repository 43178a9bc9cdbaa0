use Rattle.vk_form_tests.proofs.Faults.{file_fault}
use Rattle.vk_form_tests.proofs.laws.reading_a_sum_file_stops_at_the_fault_line.Goals as goal

pub returns : goal.returns
returns c bytes = file_fault bytes
