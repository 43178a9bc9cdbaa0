-- Steps inside a transaction: each keeps what was committed.
use Rattle.std.proofs.Common.{◌∙◌, ◌⊎◌, ap, inl, inr, cond, List, Option, Some, None, ℕ, IsTrue}
use Rattle.sqlite.specs.Order.{Row}
use Rattle.sqlite.specs.State.{State, KeepsCommit, IsNotRun, IsTooLate, ShowsRows, FailsToShow, FailsToQuery, Shown}
use Rattle.sqlite_schema.specs.declared.command.Returning.{Returning}
use Rattle.sqlite.specs.declared.error.Error.{Error}
use Rattle.sqlite.proofs.InsideLemmas.{unchanged_keeps}

shown_part : (old new : State) (sql : List ℕ) (c : _) (params : Row) (rows : List Row)
    (returning : Option Returning) → IsTrue old.in_transaction
    → ShowsRows old new sql c params rows returning
    → KeepsCommit old new × IsTrue new.in_transaction
shown_part old new sql c params rows None inside shown =
    (unchanged_keeps old new (inl shown.3), shown.3.0.mode ∙ inside)
shown_part old new sql c params rows (Some what) inside shown = (
  record {
    was_open = λ _. shown.1.shown.was_open;
    committed = λ _. shown.1.shown.committed_is ∙ ap (λ b. cond b old.committed new.now) inside;
  },
  shown.1.shown.mode ∙ inside,
)

-- a query that was answered
pub shown_stays : (sql : List ℕ) (params : Row) (old new : State) (rows : List Row)
    → IsTrue old.in_transaction → Shown sql params old new rows
    → KeepsCommit old new × IsTrue new.in_transaction
unfolding Shown
shown_stays sql params old new rows inside shown =
    shown_part old new sql shown.0 _ rows shown.0.returning inside shown.2

not_run_keeps : (old new : State) (sql : List ℕ) (params : Row) (e : Error)
    → IsNotRun old new sql params e → KeepsCommit old new
unfolding IsNotRun
not_run_keeps old new sql params e (inl refused) = unchanged_keeps old new (inl refused.1)
not_run_keeps old new sql params e (inr failed) = unchanged_keeps old new (inr failed.3)

fails_part : (old new : State) (sql : List ℕ) (c : _) (params : Row) (e : Error)
    (returning : Option Returning) → FailsToShow old new sql c params e returning
    → KeepsCommit old new
fails_part old new sql c params e None failed = unchanged_keeps old new (inl failed.3)
fails_part old new sql c params e (Some what) (inl refused) =
    unchanged_keeps old new (inl refused.1)
fails_part old new sql c params e (Some what) (inr failed) = unchanged_keeps old new (inr failed.3)

fails_keeps : (old new : State) (sql : List ℕ) (params : Row) (e : Error)
    → FailsToQuery sql params old new e → KeepsCommit old new
unfolding FailsToQuery
fails_keeps old new sql params e (inl not_run) = not_run_keeps old new sql params e not_run
fails_keeps old new sql params e (inr failed) =
    fails_part old new sql failed.0 _ e failed.0.returning failed.2

-- a query that was refused
pub unanswered_keeps : (old new : State) (sql : List ℕ) (params : Row) (e : Error)
    → FailsToQuery sql params old new e ⊎ IsTooLate sql params old new e → KeepsCommit old new
unanswered_keeps old new sql params e (inl failed) = fails_keeps old new sql params e failed
unanswered_keeps old new sql params e (inr late) = unchanged_keeps old new (inl late.5)
