use Rattle.std.proofs.Common.{◌≡◌, ◌++◌}
use Rattle.vk_range.specs.Sets.{listed}
use Rattle.vk_vickrey.specs.VickreyPlans.{win_form}
use Rattle.vk_vickrey.proofs.forms.push_wins.Given as goal

abbrev pub invariant-loop-k : goal.invariant-loop-k
invariant-loop-k l = l.forms.items ≡ l.fn.forms.items ++ listed (win_form l.seals l.winner) l.k
