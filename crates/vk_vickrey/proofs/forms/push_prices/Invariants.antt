use Rattle.std.proofs.Common.{◌≡◌, ◌++◌}
use Rattle.vk_range.specs.Sets.{listed}
use Rattle.vk_vickrey.specs.VickreyPlans.{price_form}
use Rattle.vk_vickrey.proofs.forms.push_prices.Given as goal

abbrev pub invariant-loop-k : goal.invariant-loop-k
invariant-loop-k l = l.forms.items
    ≡ l.fn.forms.items ++ listed (price_form l.seals l.winner l.price) l.k
