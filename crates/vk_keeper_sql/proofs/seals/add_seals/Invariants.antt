use Rattle.std.proofs.Common.{◌≡◌, ◌+◌, drop}
use Rattle.vk_keeper_sql.specs.Writing.{adding}
use Rattle.vk_keeper_sql.proofs.Steps.{LeavesRest}
use Rattle.vk_keeper_sql.proofs.seals.add_seals.Given as goal

-- what is left to be run are the statements for the seals that are left
abbrev pub invariant-loop-i : goal.invariant-loop-i
invariant-loop-i g l = record {
  same_reference : l.transaction.conn.ghost_name ≡ l.fn.transaction.conn.ghost_name;
  works : LeavesRest g.S.Store (adding l.id l.before l.seals)
      (adding l.id (l.before + l.i) (drop l.i l.seals)) l.fn.transaction.conn.now
      l.transaction.conn.now;
}
