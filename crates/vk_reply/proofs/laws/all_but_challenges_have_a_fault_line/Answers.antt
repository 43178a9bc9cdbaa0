use Rattle.vk_lines.proofs.Faults.{faults_all_but_texts}
use Rattle.vk_reply.specs.Tables.{challenge_table}
use Rattle.vk_reply.proofs.Challenges.{challenge_is_whole, challenge_ends}
use Rattle.vk_reply.proofs.laws.all_but_challenges_have_a_fault_line.Goals as goal

pub returns : goal.returns
returns c = faults_all_but_texts challenge_table challenge_is_whole challenge_ends
