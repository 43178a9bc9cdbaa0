use Rattle.std.proofs.Common.{◌≡◌, ◌++◌, flat_map, map, take}
use Rattle.vk_uniform.specs.UniformPlans.{win_form}
use Rattle.vk_uniform.proofs.forms.push_wins.Given as goal

abbrev pub invariant-loop-winner : goal.invariant-loop-winner
invariant-loop-winner l =
    l.forms.items ≡ l.fn.forms.items ++ flat_map (λ winner. map (win_form l.inputs winner) l.losers)
    (take l.winner-index l.winners)
