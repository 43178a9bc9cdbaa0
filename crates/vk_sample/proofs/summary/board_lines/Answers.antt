use Rattle.vk_sample.proofs.summary.board_lines.Goals as goal

pub returns : goal.returns
returns c = rw (c.wire_count.ensures.count, c.row_count.ensures.count, c.requires.first)
