use Rattle.vk_lines.proofs.Faults.{faults_all_but_texts}
use Rattle.vk_seal.specs.Tables.{seal_table}
use Rattle.vk_seal.proofs.Forms.{seal_is_whole, seal_ends}
use Rattle.vk_seal.proofs.laws.all_but_seals_have_a_fault_line.Goals as goal

pub returns : goal.returns
returns c = faults_all_but_texts seal_table seal_is_whole seal_ends
