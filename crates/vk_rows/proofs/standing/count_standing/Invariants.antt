use Rattle.std.proofs.Common.{take}
use Rattle.vk_rows.specs.Columns.{ShowSeals}
use Rattle.vk_rows.proofs.standing.count_standing.Given as goal

-- the rows so far are those of the seals
abbrev pub invariant-loop-i : goal.invariant-loop-i
invariant-loop-i l = ShowSeals 0 (take l.i l.held) (take l.i l.seals)
