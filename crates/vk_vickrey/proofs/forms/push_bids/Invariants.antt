use Rattle.std.proofs.Common.{◌≡◌, ◌++◌}
use Rattle.vk_range.specs.Sets.{listed}
use Rattle.vk_vickrey.specs.VickreyPlans.{bid_form}
use Rattle.vk_vickrey.proofs.forms.push_bids.Given as goal

abbrev pub invariant-loop-j : goal.invariant-loop-j
invariant-loop-j l = l.forms.items ≡ l.fn.forms.items ++ listed (bid_form l.seals) l.j
