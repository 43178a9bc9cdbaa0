use Rattle.std.proofs.Common.{◌∙◌}
use Rattle.vk_uniform.specs.Losers.{losers_are}
use Rattle.vk_uniform.proofs.plan.UniformPlan.ranges.Goals as goal

pub push_wins-requires-clause-losers : goal.push_wins-requires-clause-losers
push_wins-requires-clause-losers c =
    let s = c.args.self.now in
    rw (c.as_slice-losers.ensures ∙ s.outside) (losers_are s.inputs s.winners)

pub push_prices-requires-clause-losers : goal.push_prices-requires-clause-losers
push_prices-requires-clause-losers c =
    let s = c.args.self.now in
    rw (c.as_slice-losers.ensures ∙ s.outside) (losers_are s.inputs s.winners)
