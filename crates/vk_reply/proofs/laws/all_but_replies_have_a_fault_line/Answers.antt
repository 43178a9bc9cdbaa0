use Rattle.vk_lines.proofs.Faults.{faults_all_but_texts}
use Rattle.vk_reply.specs.Tables.{reply_table}
use Rattle.vk_reply.proofs.Replies.{reply_is_whole, reply_ends}
use Rattle.vk_reply.proofs.laws.all_but_replies_have_a_fault_line.Goals as goal

pub returns : goal.returns
returns c kinds bit_of = faults_all_but_texts (reply_table kinds bit_of)
    (reply_is_whole kinds bit_of) (reply_ends kinds bit_of)
