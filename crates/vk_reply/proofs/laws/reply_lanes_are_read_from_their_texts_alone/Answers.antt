use Rattle.vk_reply.proofs.Replies.{lane_is_part}
use Rattle.vk_reply.proofs.laws.reply_lanes_are_read_from_their_texts_alone.Goals as goal

pub returns : goal.returns
returns c lane kinds bit fits = lane_is_part lane kinds bit fits
