use Rattle.std.proofs.Common.{◌≡◌, map, take}
use Rattle.vk_rows.specs.Columns.{seal_texts}
use Rattle.vk_rows.proofs.texts.seals_of.Given as goal

abbrev pub invariant-loop-row : goal.invariant-loop-row
invariant-loop-row l = l.texts ≡ map seal_texts (take l.row-index l.seals)
