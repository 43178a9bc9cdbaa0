use Rattle.vk_reply.proofs.Replies.{reply_fault}
use Rattle.vk_reply.proofs.laws.reading_a_reply_stops_at_the_fault_line.Goals as goal

pub returns : goal.returns
returns c kinds bit_of bytes = reply_fault kinds bit_of bytes
