use Rattle.std.proofs.Common.{◌≡◌}
use Rattle.vk_range.specs.Sets.{listed}
use Rattle.vk_matching.specs.MatchingPlans.{rank_form}
use Rattle.vk_matching.proofs.plan.MatchingPlan.ranges.Given as goal

abbrev pub invariant-loop-place : goal.invariant-loop-place
invariant-loop-place l = l.forms.items ≡ listed (rank_form l.self.inputs) l.place
