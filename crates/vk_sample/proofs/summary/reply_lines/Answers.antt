use Rattle.vk_sample.proofs.summary.reply_lines.Goals as goal

pub returns : goal.returns
returns c = rw (c.wire_count.ensures.count, c.requires.first)
