use Rattle.vk_lines.proofs.Faults.{faults_all_but_texts}
use Rattle.vk_form_tests.specs.Forms.{sum_table}
use Rattle.vk_form_tests.proofs.Forms.{file_is_whole}
use Rattle.vk_form_tests.proofs.Faults.{file_ends}
use Rattle.vk_form_tests.proofs.laws.all_but_sum_files_have_a_fault_line.Goals as goal

pub returns : goal.returns
returns c = faults_all_but_texts sum_table file_is_whole file_ends
