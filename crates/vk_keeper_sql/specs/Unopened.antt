-- Why a store isn't opened, over a disk that returned what was written. What a connection refuses
-- is said by its own relations, of the store before and behind the refused step: its want of memory
-- and a fault of the disk too, behind which it has ended the transaction.
use Rattle.std.specs.Prelude.{◌≡◌, ◌≢◌, ℕ, pos, true, List, [], ◌∷◌, Err, IsTrue}
use Rattle.sqlite.specs.Store.{Ghosts}
use Rattle.sqlite.specs.Order.{Row}
use Rattle.sqlite.specs.Held.{Held, state}
use Rattle.sqlite.specs.State.{IsRolledBack}
use Rattle.sqlite.specs.Steps.{FailsToCommit}
use Rattle.sqlite.specs.declared.error.Error.{Error}
use Rattle.sqlite.specs.declared.types.Value.TheVariants.{Int}
use Rattle.vk_io.specs.declared.errors.OutsideErr.{OutsideErr}
use Rattle.vk_keeper_sql.specs.declared.errors.OpenErr.{OpenErr}
use Rattle.vk_keeper_sql.specs.declared.errors.OpenErr.TheVariants.{Refused}
use Rattle.vk_keeper_sql.specs.declared.layout.Layout.{Layout}
use Rattle.vk_keeper_sql.specs.declared.layout.Layout.TheVariants.{Blank, First, Second, Other}
use Rattle.vk_keeper_sql.specs.Layouts.{HasLayout}
use Rattle.vk_keeper_sql.specs.Opening.{AddsTerms, IsNumbered, PreparesFrom, filling, making}
use Rattle.vk_keeper_sql.specs.Refusals.{open_refusal}
use Rattle.vk_rows.specs.Refusals.{statement_refusal}
use Rattle.vk_keeper_sql.specs.Statements.{make_terms, next_number, number_query, ids_query}
use Rattle.vk_keeper_sql.specs.Transactions.{Answers, Ran, RefusesQuery, RefusesRun, StopsAmong}
use Rattle.vk_keeper_sql.specs.Versions.{number_of}

module _ {S : Type 0} (g : Ghosts S) where
  -- tables of the number 1 weren't lifted: a statement was refused, or the query for the ids
  pub data StopsLifting (old new : Held S) (told : OutsideErr) : Type 0 where
    make_refused : RefusesRun g make_terms [] old new told → StopsLifting old new told
    ids_refused : (made : Held S) → Ran g make_terms [] old made
        → RefusesQuery g ids_query [] made new told → StopsLifting old new told
    terms_refused : (made asked : Held S) (ids : List Row) → Ran g make_terms [] old made
        → Answers g ids_query [] made asked ids
        → StopsAmong g (filling ids) asked new told → StopsLifting old new told
    number_refused : (made asked filled : Held S) (ids : List Row) → Ran g make_terms [] old made
        → Answers g ids_query [] made asked ids → AddsTerms g ids asked filled
        → RefusesRun g next_number (Int (pos 2) ∷ []) filled new told → StopsLifting old new told

  -- no number was read from the table `about`: the query was refused, or its rows show none
  pub data StopsNumber (old new : Held S) (refusal : OpenErr) : Type 0 where
    query_refused : (told : OutsideErr) → RefusesQuery g number_query [] old new told
        → refusal ≡ open_refusal told → StopsNumber old new refusal
    other_number : (rows : List Row) → Answers g number_query [] old new rows
        → number_of rows ≡ Err refusal → StopsNumber old new refusal

  -- nor the number that is asked for
  pub data StopsCheck (number : ℕ) (old new : Held S) (refusal : OpenErr) : Type 0 where
    not_read : StopsNumber old new refusal → StopsCheck number old new refusal
    not_its_own : (found : ℕ) → IsNumbered g found old new → found ≢ number → refusal ≡ Refused
        → StopsCheck number old new refusal

  -- by the tables that were there
  pub data StopsFrom (old new : Held S) (refusal : OpenErr) : Layout → Type 0 where
    not_made : (told : OutsideErr) → StopsAmong g making old new told → refusal ≡ open_refusal told
        → StopsFrom old new refusal Blank
    not_first : StopsCheck 1 old new refusal → StopsFrom old new refusal First
    not_lifted : (mid : Held S) (told : OutsideErr) → IsNumbered g 1 old mid
        → StopsLifting mid new told → refusal ≡ open_refusal told → StopsFrom old new refusal First
    not_second : StopsCheck 2 old new refusal → StopsFrom old new refusal Second
    not_numbered : StopsNumber old new refusal → StopsFrom old new refusal Other
    anothers : (number : ℕ) → IsNumbered g number old new → refusal ≡ Refused
        → StopsFrom old new refusal Other

  -- the connection was in a transaction, and is as it was; or the tables that were there weren't
  -- prepared, and the transaction was rolled back; or they were, and its commit was refused
  pub data IsRefusedFor (old new : Held S) (refusal : OpenErr) : Type 0 where
    in_transaction : IsTrue old.in_transaction → new ≡ old → refusal ≡ Refused
        → IsRefusedFor old new refusal
    not_prepared : (layout : Layout) (last : Held S) → HasLayout layout old.schema
        → StopsFrom (record old { in_transaction = true }) last refusal layout
        → IsRolledBack (state g last) (state g new) → IsRefusedFor old new refusal
    not_committed : (layout : Layout) (last : Held S) (error : Error) → HasLayout layout old.schema
        → PreparesFrom g layout (record old { in_transaction = true }) last
        → FailsToCommit (state g last) (state g new) error
        → refusal ≡ open_refusal (statement_refusal error) → IsRefusedFor old new refusal
