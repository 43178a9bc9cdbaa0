use Rattle.std.proofs.Common.{◌≡◌, ◌<◌, ℕ, true}
use Rattle.vk_range.specs.Selected.{may_stand}
use Rattle.vk_range.proofs.selected.SelectedIs.serves.Given as goal

abbrev pub invariant-loop-other : goal.invariant-loop-other
invariant-loop-other l = (k : ℕ) → k < l.other → may_stand l.self l.values l.place k ≡ true
