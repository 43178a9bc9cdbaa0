use Rattle.vk_reply.proofs.Replies.{reply_is_whole}
use Rattle.vk_reply.proofs.laws.replies_are_read_from_their_texts_alone.Goals as goal

pub returns : goal.returns
returns c kinds bit_of = reply_is_whole kinds bit_of
