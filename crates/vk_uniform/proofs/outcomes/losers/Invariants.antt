use Rattle.std.proofs.Common.{◌≡◌}
use Rattle.vk_uniform.specs.Losers.{losers}
use Rattle.vk_uniform.proofs.outcomes.losers.Given as goal

abbrev pub invariant-loop-place : goal.invariant-loop-place
invariant-loop-place l = l.all.items ≡ losers l.place l.winners
