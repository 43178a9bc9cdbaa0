use Rattle.std.proofs.Common.{◌≡◌, ◌++◌, map, take}
use Rattle.vk_uniform.specs.UniformPlans.{win_form}
use Rattle.vk_uniform.proofs.forms.push_wins_of.Given as goal

abbrev pub invariant-loop-loser : goal.invariant-loop-loser
invariant-loop-loser l =
    l.forms.items ≡ l.fn.forms.items
    ++ map (win_form l.inputs l.winner) (take l.loser-index l.losers)
