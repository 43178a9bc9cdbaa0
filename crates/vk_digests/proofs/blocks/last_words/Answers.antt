use Rattle.std.proofs.Common.{sym}
use Rattle.vk_digests.proofs.Lanes.{lane_splat}
use Rattle.vk_digests.proofs.PaddedMessages.{last_words_of}
use Rattle.vk_digests.proofs.blocks.last_words.Goals as goal

pub returns : goal.returns
returns c = λ j lt message size last.
    rw (lane_splat 0 j lt, lane_splat 2147483648 j lt, lane_splat 544 j lt, last)
    (sym (last_words_of message size))
