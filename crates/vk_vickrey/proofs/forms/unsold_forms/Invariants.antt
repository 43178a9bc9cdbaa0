use Rattle.std.proofs.Common.{◌≡◌, ◌++◌}
use Rattle.vk_range.specs.Sets.{listed}
use Rattle.vk_vickrey.specs.VickreyPlans.{bid_form}
use Rattle.vk_vickrey.specs.ReservePlans.{below_form}
use Rattle.vk_vickrey.proofs.forms.unsold_forms.Given as goal

abbrev pub invariant-loop-j : goal.invariant-loop-j
invariant-loop-j l = l.forms.items
    ≡ listed (bid_form l.seals) l.seals ++ listed (below_form l.seals l.limit) l.j
