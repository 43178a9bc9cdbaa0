use Rattle.vk_lines.proofs.Faults.{faults_all_but_texts}
use Rattle.vk_seal.specs.Tables.{secret_table}
use Rattle.vk_seal.proofs.Forms.{secret_is_whole, secret_ends}
use Rattle.vk_seal.proofs.laws.all_but_secrets_have_a_fault_line.Goals as goal

pub returns : goal.returns
returns c = faults_all_but_texts secret_table secret_is_whole secret_ends
