use Rattle.vk_lines.proofs.Faults.{faults_all_but_texts}
use Rattle.vk_claim.specs.Tables.{claim_table}
use Rattle.vk_claim.proofs.Forms.{claim_file_whole}
use Rattle.vk_claim.proofs.Faults.{claim_fault, file_ends}
use Rattle.vk_claim.proofs.laws.all_but_claim_files_have_a_fault_line.Goals as goal

pub returns : goal.returns
returns c = record {
  texts = λ shape. faults_all_but_texts (claim_table shape) (claim_file_whole shape)
      (file_ends shape);
  stops = claim_fault;
}
