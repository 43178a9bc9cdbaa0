use Rattle.std.proofs.Common.{◌≡◌, drop}
use Rattle.vk_keeper_sql.specs.Opening.{filling}
use Rattle.vk_keeper_sql.proofs.Steps.{LeavesRest}
use Rattle.vk_keeper_sql.proofs.lifting.add_terms.Given as goal

-- what is left to be run are the statements for the ids that are left
abbrev pub invariant-loop-row : goal.invariant-loop-row
invariant-loop-row g l = record {
  same_reference : l.transaction.conn.ghost_name ≡ l.fn.transaction.conn.ghost_name;
  works : LeavesRest g.S.Store (filling l.ids) (filling (drop l.row-index l.ids))
      l.fn.transaction.conn.now l.transaction.conn.now;
}
