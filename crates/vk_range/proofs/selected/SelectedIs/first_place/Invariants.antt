use Rattle.std.proofs.Common.{◌≡◌, ◌<◌, ℕ, false}
use Rattle.vk_range.specs.Selected.{serves}
use Rattle.vk_range.proofs.selected.SelectedIs.first_place.Given as goal

abbrev pub invariant-loop-place : goal.invariant-loop-place
invariant-loop-place l = (k : ℕ) → k < l.place → serves l.self l.values k ≡ false
