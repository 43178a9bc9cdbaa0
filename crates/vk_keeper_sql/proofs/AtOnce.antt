-- What a transaction is as a whole, by what happened in it and how it ended.
use Rattle.std.proofs.Common.{◌≡◌, ◌∙◌, refl, sym, inl, inr, arith, true, false, Result, Ok, Err, IsErr, IsTrue, OnOk}
use Rattle.std.specs.Prelude.{OnErr}
use Rattle.sqlite.specs.Store.{Ghosts}
use Rattle.sqlite.specs.Tree.{Trees}
use Rattle.sqlite.specs.Effect.{Database}
use Rattle.sqlite.specs.State.{State, HasCleanDisk, Survives, KeepsCommit, IsRolledBack, Shows}
use Rattle.sqlite.specs.Steps.{FailsToCommit}
use Rattle.sqlite.specs.declared.error.Error.{Error}
use Rattle.sqlite.specs.Held.{Held, state}
use Rattle.sqlite.proofs.StateLemmas.{survives_then, survives_weaker}
use Rattle.sqlite.proofs.Callers.{survives_begin}
use Rattle.vk_keeper_sql.specs.Transactions.{ChangesNothing, CommitsAtOnce, CommitsNothing, SeesCommitted, WhereBegun, WorksInside}

-- a store that no statement has reached
pub survives_same : (state : State) (P : Trees → Type 0) → Survives state state P
survives_same state P = record {
  clean = omega arith;
  shield = λ h. h;
  counts = omega arith;
  limit = refl;
  closes = λ clean h. inl h;
  crash = λ clean db h. inl h;
}

pub keeps_same : (state : State) → KeepsCommit state state
keeps_same state = record { was_open = λ h. h; committed = λ h. refl }

pub was_clean : {P : Trees → Type 0} (old new : State) → Survives old new P → HasCleanDisk new
    → HasCleanDisk old
was_clean old new step clean = omega (arith, step.clean)

on_ok_of_err : {E : Type 0} (P : Type 0) (result : Result Unit E) → IsErr result → OnOk result P
on_ok_of_err P (Ok done) refused = absurd (let e = refused in cc)
on_ok_of_err P (Err refusal) refused = tt

on_err_of : {E : Type 0} (P : Type 0) (result : Result Unit E) → P → OnErr result P
on_err_of P (Ok done) h = tt
on_err_of P (Err refusal) h = h

-- a refused call, where nothing is committed
pub nothing_at_once : {E : Type 0} (Makes : Database → Type 0) (old new : State)
    (result : Result Unit E) → IsErr result → CommitsNothing old new
    → (HasCleanDisk new → ChangesNothing old new)
    → CommitsAtOnce Makes old new result
nothing_at_once Makes old new result refused none same = record {
  whole = new.committed;
  crash = survives_weaker old new _ _ (λ _ db no. absurd no) none;
  done = λ clean. on_ok_of_err _ result refused;
  seen = λ clean. on_ok_of_err _ result refused;
  refused = λ clean. on_err_of _ result (same clean);
}

-- the same of a call that did nothing
pub untouched_at_once : {E : Type 0} (Makes : Database → Type 0) (state : State)
    (result : Result Unit E) → IsErr result
    → (IsTrue state.is_open → state.in_transaction ≡ false → state.now ≡ state.committed)
    → CommitsAtOnce Makes state state result
untouched_at_once Makes state result refused settled =
    nothing_at_once Makes state state result refused (survives_same state _)
    (λ clean. record { kept = keeps_same state; settled = settled; ended = λ h. h })

-- what is begun on a store that is open
keeps_begun : {S : Type 0} (g : Ghosts S) (old : Held S) (new : State)
    → KeepsCommit (state g (record old { in_transaction = true })) new → KeepsCommit (state g old) new
keeps_begun g old new kept = record { was_open = kept.was_open; committed = kept.committed }

-- a transaction that was rolled back
pub rolled_back : {S : Type 0} (g : Ghosts S) (old : Held S) (mid new : State)
    → KeepsCommit (state g (record old { in_transaction = true })) mid
    → IsRolledBack mid new → ChangesNothing (state g old) new
rolled_back g old mid new kept undone =
    let begun = keeps_begun g old mid kept in
    record {
      kept = record {
        was_open = λ h. begun.was_open (undone.was_open h);
        committed = λ h. (undone.undone h).1 ∙ begun.committed (undone.was_open h);
      };
      settled = λ h _. (undone.undone h).0 ∙ sym (undone.undone h).1;
      ended = λ _. undone.autocommit;
    }

-- a transaction whose commit failed
pub commit_failed : {S : Type 0} (g : Ghosts S) (old : Held S) (mid new : State) (e : Error)
    → KeepsCommit (state g (record old { in_transaction = true })) mid
    → IsTrue mid.in_transaction → FailsToCommit mid new e → ChangesNothing (state g old) new
commit_failed g old mid new e kept inside (inl failed) =
    rolled_back g old mid new kept failed.3
commit_failed g old mid new e kept inside (inr late) =
    absurd (let e = sym inside ∙ late.1 in cc)

-- a transaction whose commit was done
pub commit_done : (mid new : State) → Shows mid new mid.now mid.now false → SeesCommitted new
commit_done mid new shows = record {
  is_open = shows.is_open;
  ended = shows.mode;
  same = shows.now_is ∙ sym shows.committed_is;
}

-- what a crash leaves of a transaction that ended in a commit of what was made in it
made_at_once : {S : Type 0} (g : Ghosts S) (old mid last : Held S) (Makes : Database → Type 0)
    → CommitsNothing (state g (record old { in_transaction = true })) (state g mid)
    → (HasCleanDisk (state g mid) → Makes (state g mid).now)
    → Survives (state g mid) (state g last) (λ db. db ≡ (state g mid).now.trees)
    → Survives (state g old) (state g last)
    (λ db. (db ≡ (state g mid).now.trees) × Makes (state g mid).now)
made_at_once g old mid last Makes inside made end =
    survives_then (state g old) (state g mid) (state g last) _ _
    (λ db. (db ≡ (state g mid).now.trees) × Makes (state g mid).now) (λ _ db no. absurd no)
    (λ clean db is. (is, made (was_clean _ _ end clean)))
    (survives_begin g old (state g mid) _ inside) end

-- a transaction that was begun, in which one step was taken, and that has ended
module _ {S T E F : Type 0} (g : Ghosts S) (old begun mid last new : Held S) (is : begun ≡ record old { in_transaction = true }) (same : last ≡ new) (Makes : Database → Type 0) {Does : T → Held S → Held S → Type 0} {Stops : Held S → Held S → E → Type 0} where
  -- the step was refused, and the transaction rolled back
  pub undone_at_once : {told : E} (result : Result Unit F) → IsErr result
      → WorksInside g Does (WhereBegun g Stops) begun mid (Err told)
      → CommitsNothing (state g mid) (state g last)
      → (HasCleanDisk (state g last) → IsRolledBack (state g mid) (state g last))
      → CommitsAtOnce Makes (state g old) (state g new) result
      × (HasCleanDisk (state g new) → Stops (record old { in_transaction = true }) mid told
      × IsRolledBack (state g mid) (state g new))
  undone_at_once result refused step end undone = rw (← same) (
      let within = rw is at step in
      let begun = survives_begin g old (state g mid) _ within.crash in (
        nothing_at_once Makes (state g old) (state g last) result refused
            (survives_then (state g old) (state g mid) (state g last) _ _ _ (λ _ db no. no)
            (λ _ db no. no) begun end) (λ clean. rolled_back g old (state g mid) (state g last)
            (within.stays (was_clean _ _ end clean) refl).kept (undone clean)),
        λ clean. ((within.refused (was_clean _ _ end clean)).stops refl, undone clean),
      )
      )

  -- the step was taken, and the transaction committed
  pub done_at_once : {value : T} → WorksInside g Does Stops begun mid (Ok value)
      → (Does value (record old { in_transaction = true }) mid → Makes (state g mid).now)
      → Survives (state g mid) (state g last) (λ db. db ≡ (state g mid).now.trees)
      → (HasCleanDisk (state g last)
      → Shows (state g mid) (state g last) (state g mid).now (state g mid).now false)
      → CommitsAtOnce {E = F} Makes (state g old) (state g new) (Ok tt)
  done_at_once step so end shown = rw (← same) (
      let within = rw is at step in
      record {
        whole = (state g mid).now;
        crash = made_at_once g old mid last Makes within.crash (λ clean. so (within.done clean)) end;
        done = λ clean.
            ((shown clean).committed_is, so (within.done (was_clean _ _ end clean)));
        seen = λ clean. commit_done (state g mid) (state g last) (shown clean);
        refused = λ clean. tt;
      }
      )

  -- the step was taken, and the commit refused
  pub failed_at_once : {value : T} {error : Error} (told : F)
      → WorksInside g Does Stops begun mid (Ok value)
      → (Does value (record old { in_transaction = true }) mid → Makes (state g mid).now)
      → Survives (state g mid) (state g last) (λ db. db ≡ (state g mid).now.trees)
      → (HasCleanDisk (state g last) → FailsToCommit (state g mid) (state g last) error)
      → CommitsAtOnce Makes (state g old) (state g new) (Err told)
      × (HasCleanDisk (state g new) → Does value (record old { in_transaction = true }) mid
      × FailsToCommit (state g mid) (state g new) error)
  failed_at_once {error} told step so end failed = rw (← same) (
      let within = rw is at step in (
        record {
          whole = (state g mid).now;
          crash = made_at_once g old mid last Makes within.crash (λ clean. so (within.done clean)) end;
          done = λ clean. tt;
          seen = λ clean. tt;
          refused = λ clean.
              let stays = within.stays (was_clean _ _ end clean) refl in
              commit_failed g old (state g mid) (state g last) error stays.kept stays.inside
              (failed clean);
        },
        λ clean. (within.done (was_clean _ _ end clean), failed clean),
      )
      )
