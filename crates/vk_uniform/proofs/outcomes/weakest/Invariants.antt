use Rattle.std.proofs.Common.{◌≡◌, slice_index}
use Rattle.vk_uniform.specs.Outcomes.{bid_at}
use Rattle.vk_uniform.specs.OutcomeLaws.{IsWeakest}
use Rattle.vk_uniform.proofs.outcomes.weakest.Given as goal

abbrev pub invariant-loop-i : goal.invariant-loop-i
invariant-loop-i l =
    IsWeakest l.bids l.winners l.i l.place
    × (l.least ≡ bid_at l.bids (slice_index l.winners l.place))
