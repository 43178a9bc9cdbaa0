use Rattle.std.proofs.Common.{◌≡◌, ◌-◌, ◌≤◌, take, slice_index_or}
use Rattle.vk_plan.specs.Forms.{linear_part, no_row}
use Rattle.vk_plan.specs.Tables.{flat_rows, start_from}
use Rattle.vk_plan.proofs.flat.Flat.sum.Given as goal

abbrev pub invariant-loop-at : goal.invariant-loop-at
invariant-loop-at l =
    (start_from 0 l.self.ends.items l.row ≤ l.at)
    × (l.sum ≡ linear_part (take (l.at - start_from 0 l.self.ends.items l.row)
    (slice_index_or (flat_rows l.self) l.row no_row).terms) l.values)
