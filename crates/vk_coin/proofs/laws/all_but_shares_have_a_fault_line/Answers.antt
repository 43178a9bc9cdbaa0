use Rattle.vk_lines.proofs.Faults.{faults_all_but_texts}
use Rattle.vk_coin.specs.Tables.{share_table}
use Rattle.vk_coin.proofs.Forms.{share_is_whole}
use Rattle.vk_coin.proofs.Faults.{share_ends}
use Rattle.vk_coin.proofs.laws.all_but_shares_have_a_fault_line.Goals as goal

pub returns : goal.returns
returns c = faults_all_but_texts share_table share_is_whole share_ends
