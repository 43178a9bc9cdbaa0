use Rattle.vk_bids.proofs.Shown.{with_found}
use Rattle.vk_bids.proofs.gathering.add_lane.Goals as goal

pub returns-clause-opens : goal.returns-clause-opens
returns-clause-opens c =
    with_found c.args.statement.now c.args.bids.now c.push_found.new.bids c.in_ok-found.found
    c.in_ok-push_found.ensures.pushed c.in_ok-found.ensures.opens
