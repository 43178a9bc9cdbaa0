use Rattle.vk_lines.proofs.Faults.{faults_all_but_texts}
use Rattle.vk_coin.specs.Tables.{coin_table}
use Rattle.vk_coin.proofs.Forms.{coin_is_whole}
use Rattle.vk_coin.proofs.Faults.{coin_ends}
use Rattle.vk_coin.proofs.laws.all_but_coins_have_a_fault_line.Goals as goal

pub returns : goal.returns
returns c = faults_all_but_texts coin_table coin_is_whole coin_ends
