use Rattle.vk_reply.proofs.Replies.{head_is_part}
use Rattle.vk_reply.proofs.laws.reply_heads_are_read_from_their_texts_alone.Goals as goal

pub returns : goal.returns
returns c = head_is_part
