use Rattle.vk_sample.proofs.summary.push_counts.Goals as goal

pub returns : goal.returns
returns c = rw (
  c.in_ok-board.ensures.ok,
  c.in_ok-reply.ensures.ok,
  c.board_lines-board.ensures,
  c.reply_lines-reply.ensures,
) at c.in_ok-push_two.ensures
