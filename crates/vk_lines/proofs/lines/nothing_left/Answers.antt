use Rattle.vk_lines.proofs.Feeds.{end_told}
use Rattle.vk_lines.proofs.lines.nothing_left.Goals as goal

pub returns-clause-modelled : goal.returns-clause-modelled
returns-clause-modelled c files old new taken next =
    rw c.end_answer-answer.ensures (end_told c.args.step c.args.before files old new taken next)
