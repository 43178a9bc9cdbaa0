use Rattle.std.proofs.Common.{◌≡◌, ◌++◌, map, take}
use Rattle.vk_uniform.specs.UniformPlans.{price_form}
use Rattle.vk_uniform.proofs.forms.push_prices.Given as goal

abbrev pub invariant-loop-loser : goal.invariant-loop-loser
invariant-loop-loser l =
    l.forms.items ≡ l.fn.forms.items
    ++ map (price_form l.inputs l.price) (take l.loser-index l.losers)
