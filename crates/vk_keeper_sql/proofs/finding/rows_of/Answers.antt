use Rattle.std.proofs.Common.{◌≡◌, Err, refl, rules}
use Rattle.sqlite.specs.Held.{state}
use Rattle.sqlite.specs.State.{HasCleanDisk}
use Rattle.vk_io.specs.declared.errors.OutsideErr.TheVariants.{Failed}
use Rattle.vk_keeper_sql.proofs.AtOnce.{rolled_back, was_clean}
use Rattle.vk_keeper_sql.proofs.finding.rows_of.Goals as goal

pub returns-clause-read : goal.returns-clause-read
returns-clause-read g c clean =
    let late : HasCleanDisk (state g.S.Store c.drop-transaction.new.self.0) = search rules in
    let last = was_clean _ _ c.drop-transaction.ensures.survives late in
    let step = rw c.transaction-transaction.ensures.begun at c.rows_within-rows.ensures.works in
    step.done last

pub returns-clause-kept : goal.returns-clause-kept
returns-clause-kept g c clean =
    let late : HasCleanDisk (state g.S.Store c.drop-transaction.new.self.0) = search rules in
    let last = was_clean _ _ c.drop-transaction.ensures.survives late in
    let step = rw c.transaction-transaction.ensures.begun at c.rows_within-rows.ensures.works in
    let changes = rolled_back g.S.Store c.args.connection.now
    (state g.S.Store c.rows_within-rows.new.transaction.conn.now)
    (state g.S.Store c.drop-transaction.new.self.0) (step.stays last refl).kept
    (c.drop-transaction.ensures.undone late) in
    search (rules, changes)

pub returns-clause-refused : goal.returns-clause-refused
returns-clause-refused g c clean failed =
    let late : HasCleanDisk (state g.S.Store c.drop-transaction.new.self.0) = search rules in
    let last = was_clean _ _ c.drop-transaction.ensures.survives late in
    let step = rw c.transaction-transaction.ensures.begun at c.rows_within-rows.ensures.works in
    let is : c.rows_within-rows.result ≡ Err Failed = search (rules, failed) in
    (rw is at (step.refused last)) refl
