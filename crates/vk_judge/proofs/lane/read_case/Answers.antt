use Rattle.std.proofs.Common.{rules}
use Rattle.vk_judge.proofs.Counts.{fits}
use Rattle.vk_judge.proofs.lane.read_case.Goals as goal

pub returns-clause-fits : goal.returns-clause-fits
returns-clause-fits g c = fits c.args.statement.now c.args.lane c.in_ok-lines.lines
    c.in_ok-case.case c.plan-plan.ensures.right (search rules) (search rules)
