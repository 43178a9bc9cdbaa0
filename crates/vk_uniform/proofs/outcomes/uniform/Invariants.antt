use Rattle.std.proofs.Common.{◌≡◌, ◌+◌, length}
use Rattle.vk_uniform.specs.Outcomes.{IsUniformOutcome}
use Rattle.vk_uniform.proofs.outcomes.uniform.Given as goal

abbrev pub invariant-loop-taken : goal.invariant-loop-taken
invariant-loop-taken l =
    IsUniformOutcome l.bids l.winners.items l.price
    × (length l.winners.items + l._taken ≡ length l.bids)
