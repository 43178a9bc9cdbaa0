use Rattle.std.proofs.Common.{◌≡◌}
use Rattle.vk_range.specs.SelectedLaws.{stage}
use Rattle.vk_range.proofs.selected.SelectedIsRelation.add.Given as goal

abbrev pub invariant-loop-place : goal.invariant-loop-place
invariant-loop-place l = l.plan ≡ stage l.self l.fn.plan l.place
