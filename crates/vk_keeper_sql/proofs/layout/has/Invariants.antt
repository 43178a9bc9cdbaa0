use Rattle.std.proofs.Common.{take}
use Rattle.std.specs.List.{All}
use Rattle.vk_keeper_sql.specs.Layouts.{HasShape, shape_named}
use Rattle.vk_keeper_sql.proofs.layout.has.Given as goal

-- none of the tables so far is it
abbrev pub invariant-loop-table : goal.invariant-loop-table
invariant-loop-table l = All (λ table. ¬ HasShape (shape_named l.name) table)
    (take l.table-index l.tables)
