use Rattle.vk_matching.specs.Pairs.{is_man}
use Rattle.vk_matching.proofs.plan.MatchingPlan.man_at.Goals as goal

pub returns-clause-person : goal.returns-clause-person
returns-clause-person c =
    let s = c.args.self.now in
    rw c.size.ensures (is_man _ s.wives s.in_limits.permutation c.args.pair c.requires)
