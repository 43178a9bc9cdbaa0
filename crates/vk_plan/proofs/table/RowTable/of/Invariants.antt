use Rattle.std.proofs.Common.{◌≡◌, take}
use Rattle.vk_plan.specs.Tables.{AreFlat, flat_rows}
use Rattle.vk_plan.proofs.table.RowTable.of.Given as goal

abbrev pub invariant-loop-row : goal.invariant-loop-row
invariant-loop-row l = AreFlat l.flat × (flat_rows l.flat ≡ take l.row l.plan.rows)
