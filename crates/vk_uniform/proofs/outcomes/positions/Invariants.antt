use Rattle.std.proofs.Common.{◌≡◌}
use Rattle.vk_uniform.specs.Losers.{positions}
use Rattle.vk_uniform.proofs.outcomes.positions.Given as goal

abbrev pub invariant-loop-place : goal.invariant-loop-place
invariant-loop-place l = l.all.items ≡ positions l.place
