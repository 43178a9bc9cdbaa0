use Rattle.vk_judge.specs.Opened.{checked_base}
use Rattle.vk_bids.proofs.Shown.{by_statement}
use Rattle.vk_bids.proofs.gathering.with_more.Goals as goal

pub returns-in-Ok-clause-opens : goal.returns-in-Ok-clause-opens
returns-in-Ok-clause-opens g c =
    by_statement (checked_base c.args.checker.now) c.statement.result.now c.args.before
    c.add_lane.new.bids c.statement.ensures.value c.in-Ok.ensures.opens
