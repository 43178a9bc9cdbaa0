-- Why a store isn't opened that is as it has to be.
use Rattle.std.specs.Prelude.{◌≡◌, ℕ, List}
use Rattle.sqlite.specs.Store.{Ghosts}
use Rattle.sqlite.specs.Order.{Row}
use Rattle.sqlite.specs.Held.{Held, state}
use Rattle.sqlite.specs.Steps.{FailsToCommit}
use Rattle.sqlite.specs.declared.error.Error.{Error}
use Rattle.vk_io.specs.declared.errors.OutsideErr.{OutsideErr}
use Rattle.vk_keeper_sql.specs.declared.errors.OpenErr.{OpenErr}
use Rattle.vk_rows.specs.Refusals.{statement_refusal}
use Rattle.vk_keeper_sql.specs.Refusals.{open_refusal}
use Rattle.vk_keeper_sql.specs.Transactions.{RefusesQuery, RefusesRun}

module _ {S : Type 0} (g : Ghosts S) where
  -- its connection refused a statement, a query or a commit, and that is what was told
  pub data IsOfConnection (refusal : OpenErr) : Type 0 where
    statement_refused : (old new : Held S) (statement : List ℕ) (columns : Row) (told : OutsideErr)
        → RefusesRun g statement columns old new told → refusal ≡ open_refusal told
        → IsOfConnection refusal
    question_refused : (old new : Held S) (query : List ℕ) (columns : Row) (told : OutsideErr)
        → RefusesQuery g query columns old new told → refusal ≡ open_refusal told
        → IsOfConnection refusal
    commit_refused : (old new : Held S) (error : Error)
        → FailsToCommit (state g old) (state g new) error
        → refusal ≡ open_refusal (statement_refusal error) → IsOfConnection refusal
