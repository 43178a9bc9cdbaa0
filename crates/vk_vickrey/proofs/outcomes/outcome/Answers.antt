use Rattle.std.proofs.Common.{◌≡◌, ◌+◌, length, subst, arith}
use Rattle.vk_vickrey.specs.Outcomes.{IsVickreyOutcome}
use Rattle.vk_vickrey.specs.OutcomeLaws.{IsOutcomeOfFirst, all_first, outcome_is_one}
use Rattle.vk_vickrey.proofs.outcomes.outcome.Goals as goal
use Rattle.vk_vickrey.proofs.outcomes.outcome.Goals.{After-loop-i}

found : (c : After-loop-i) → IsVickreyOutcome c.args.bids.now (c.loop-i.winner + 1) c.loop-i.price
found c =
    let all : c.loop-i.i ≡ length c.args.bids.now = omega arith in
    all_first c.args.bids.now c.loop-i.winner c.loop-i.best c.loop-i.price
    (subst (λ n. IsOutcomeOfFirst c.args.bids.now n c.loop-i.winner c.loop-i.best c.loop-i.price)
    all c.loop-i.invariant)

pub returns-clause-outcome : goal.returns-clause-outcome
returns-clause-outcome c = found c

pub returns-clause-no_other : goal.returns-clause-no_other
returns-clause-no_other c = λ winner price is. outcome_is_one c.args.bids.now winner price
    (c.loop-i.winner + 1) c.loop-i.price is (found c)
