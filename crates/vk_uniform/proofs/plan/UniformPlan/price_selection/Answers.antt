use Rattle.std.proofs.Common.{◌∙◌}
use Rattle.vk_uniform.specs.Losers.{losers_are}
use Rattle.vk_uniform.proofs.plan.UniformPlan.price_selection.Goals as goal

pub copies_at-requires-clause-positions : goal.copies_at-requires-clause-positions
copies_at-requires-clause-positions c =
    let s = c.args.self.now in
    rw (c.as_slice.ensures ∙ s.outside) (losers_are s.inputs s.winners)
