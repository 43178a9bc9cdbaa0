-- Calls over a store, the statements that they run, and what a crash at any moment leaves of it.
use Rattle.std.specs.Prelude.{◌≡◌, ◌⊎◌, false, ℕ, List, [], ◌∷◌, Result, Ok, Err, IfErr, IfOk, IsTrue, OnOk, OnErr}
use Rattle.sqlite.specs.Effect.{Database}
use Rattle.sqlite.specs.Store.{Ghosts}
use Rattle.sqlite.specs.Order.{Row}
use Rattle.sqlite.specs.State.{State, HasCleanDisk, KeepsCommit, Survives, ExecutesInside, Shown, FailsToQuery, IsTooLate}
use Rattle.sqlite.specs.Held.{Held, state}
use Rattle.sqlite.specs.declared.error.Error.{Error}
use Rattle.vk_io.specs.declared.errors.OutsideErr.{OutsideErr}
use Rattle.vk_rows.specs.Refusals.{statement_refusal}

-- nothing is committed: a crash leaves what it could leave before the call
abbrev pub CommitsNothing : State → State → Type 0
CommitsNothing old new = Survives old new (λ _. ⊥)

-- nothing is changed: while the connection is open what was committed stays so, and outside of a
-- transaction nothing else is seen
pub record ChangesNothing (old new : State) : Type 0 where
  pub kept : KeepsCommit old new
  pub settled : IsTrue new.is_open → new.in_transaction ≡ false → new.now ≡ new.committed
  pub ended : old.in_transaction ≡ false → new.in_transaction ≡ false

-- the connection is open, outside of a transaction, and sees what is committed
pub record SeesCommitted (now : State) : Type 0 where
  pub is_open : IsTrue now.is_open
  pub ended : now.in_transaction ≡ false
  pub same : now.now ≡ now.committed

-- one transaction: a crash leaves what it could leave before the call, or one and the same content,
-- which was made as said. It is committed, and is what is seen, where the call was not refused, and
-- refused nothing is changed
pub record CommitsAtOnce {E : Type 0} (Makes : Database → Type 0) (old new : State)
    (result : Result Unit E) : Type 0 where
  pub whole : Database
  pub crash : Survives old new (λ trees. (trees ≡ whole.trees) × Makes whole)
  pub done : HasCleanDisk new → OnOk result ((new.committed ≡ whole) × Makes whole)
  pub seen : HasCleanDisk new → OnOk result (SeesCommitted new)
  pub refused : HasCleanDisk new → OnErr result (ChangesNothing old new)

-- a step inside a transaction: what was committed stays so, and the transaction has not ended where
-- the step was not refused
pub record StaysInside {T E : Type 0} (old new : State) (result : Result T E) : Type 0 where
  pub kept : KeepsCommit old new
  pub inside : OnOk result (IsTrue new.in_transaction)

-- a statement with its parameters
abbrev pub Step : Type 0
Step = List ℕ × Row

module _ {S : Type 0} (g : Ghosts S) where
  -- a step inside a transaction, which commits nothing
  abbrev pub LeavesDisk : Held S → Held S → Type 0
  LeavesDisk old new = CommitsNothing (state g old) (state g new)

  -- over a disk that returned what was written, where a transaction has begun
  abbrev pub Stays : {T E : Type 0} → Held S → Held S → Result T E → Type 0
  Stays old new result = HasCleanDisk (state g new) → IsTrue old.in_transaction
      → StaysInside (state g old) (state g new) result

  -- what is said of a refused step only where a transaction had begun before it
  pub record WhereBegun {E : Type 0} (Stops : Held S → Held S → E → Type 0) (old new : Held S)
      (told : E) : Type 0 where
    pub stops : IsTrue old.in_transaction → Stops old new told

  -- a step of a transaction: over a disk that returned what was written it did what is said where it
  -- was not refused, stopped as is said where it was, and what was committed stays so; over any disk
  -- it commits nothing
  pub record WorksInside {T E : Type 0} (Does : T → Held S → Held S → Type 0)
      (Stops : Held S → Held S → E → Type 0) (old new : Held S) (result : Result T E) : Type 0 where
    pub done : HasCleanDisk (state g new) → IfOk result (λ value. Does value old new)
    pub refused : HasCleanDisk (state g new) → IfErr result (Stops old new)
    pub crash : LeavesDisk old new
    pub stays : Stays old new result

  -- a statement with these parameters was run inside a transaction, and was not refused
  unfoldable pub Ran : List ℕ → Row → Held S → Held S → Type 0
  Ran statement columns old new = (count : ℕ)
      × ExecutesInside 0 statement columns (state g old) (state g new) (Ok count)

  -- the answer to a query with these parameters inside a transaction
  abbrev pub Answers : List ℕ → Row → Held S → Held S → List Row → Type 0
  Answers query columns old new rows = Shown query columns (state g old) (state g new) rows

  -- a statement was refused inside a transaction, and is told so
  pub record RefusesRun (statement : List ℕ) (columns : Row) (old new : Held S)
      (told : OutsideErr) : Type 0 where
    pub error : Error
    pub step : ExecutesInside 0 statement columns (state g old) (state g new) (Err error)
    pub is : told ≡ statement_refusal error

  -- a query was refused inside a transaction, and is told so
  pub record RefusesQuery (query : List ℕ) (columns : Row) (old new : Held S)
      (told : OutsideErr) : Type 0 where
    pub error : Error
    pub step : FailsToQuery query columns (state g old) (state g new) error
        ⊎ IsTooLate query columns (state g old) (state g new) error
    pub is : told ≡ statement_refusal error

  -- these statements were run inside a transaction, one behind another
  abbrev pub RunsAll : List Step → Held S → Held S → Type 0
  RunsAll [] old new = new ≡ old
  RunsAll (next ∷ rest) old new = (mid : Held S) × Ran next.0 next.1 old mid × RunsAll rest mid new

  -- of these statements one was refused, behind those before it
  abbrev pub StopsAmong : List Step → Held S → Held S → OutsideErr → Type 0
  StopsAmong [] old new told = ⊥
  StopsAmong (next ∷ rest) old new told = RefusesRun next.0 next.1 old new told
      ⊎ ((mid : Held S) × Ran next.0 next.1 old mid × StopsAmong rest mid new told)

  -- a step that answers nothing, and of which a refusal is told where a transaction had begun
  abbrev pub WritesInside : {E : Type 0} → (Held S → Held S → Type 0)
      → (Held S → Held S → E → Type 0) → Held S → Held S → Result Unit E → Type 0
  WritesInside Does Stops = WorksInside (λ _. Does) (WhereBegun Stops)

  -- the step that runs one statement, and that which runs these one behind another
  abbrev pub RunsInside : List ℕ → Row → Held S → Held S → Result Unit OutsideErr → Type 0
  RunsInside statement columns = WritesInside (Ran statement columns) (RefusesRun statement columns)

  abbrev pub RunsAllInside : List Step → Held S → Held S → Result Unit OutsideErr → Type 0
  RunsAllInside steps = WritesInside (RunsAll steps) (StopsAmong steps)
