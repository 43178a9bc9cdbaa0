use Rattle.std.proofs.Common.{◌≡◌, ◌++◌}
use Rattle.vk_range.specs.Sets.{listed}
use Rattle.vk_uniform.specs.UniformPlans.{bid_form}
use Rattle.vk_uniform.proofs.forms.push_bids.Given as goal

abbrev pub invariant-loop-place : goal.invariant-loop-place
invariant-loop-place l = l.forms.items ≡ l.fn.forms.items ++ listed (bid_form l.inputs) l.place
