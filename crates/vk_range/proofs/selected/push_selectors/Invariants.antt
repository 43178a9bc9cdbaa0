use Rattle.std.proofs.Common.{◌≡◌, ◌++◌}
use Rattle.vk_range.specs.Selected.{selectors}
use Rattle.vk_range.proofs.selected.push_selectors.Given as goal

abbrev pub invariant-loop-place : goal.invariant-loop-place
invariant-loop-place l = l.values.items ≡ l.fn.values.items ++ selectors l.place l.selected
