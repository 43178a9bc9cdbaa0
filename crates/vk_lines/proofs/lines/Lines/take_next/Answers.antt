use Rattle.vk_lines.proofs.Feeds.{is_next}
use Rattle.vk_lines.proofs.lines.Lines.take_next.Goals as goal

pub returns-clause-next : goal.returns-clause-next
returns-clause-next c files before looked =
    rw (c.take_line-step.ensures.step, c.take_line-step.ensures.taken)
    (is_next files before c.args.self.now looked)
