-- Steps inside a transaction, one behind another.
use Rattle.std.proofs.Common.{◌≡◌, ℕ, ◌+◌, ◌<◌, List, [], ◌∷◌, length, drop, get_or, inl, inr, refl, sym, ap, ◌∙◌, Result, Ok, Err}
use Rattle.std.specs.Prelude.{IfErr, IfOk}
use Rattle.std.proofs.lemmas.List.{drop_more}
use Rattle.sqlite.specs.Store.{Ghosts}
use Rattle.sqlite.specs.Order.{Row}
use Rattle.sqlite.specs.Held.{Held, state}
use Rattle.sqlite.specs.State.{HasCleanDisk}
use Rattle.sqlite.proofs.InsideLemmas.{keeps_then}
use Rattle.sqlite.proofs.StateLemmas.{survives_then}
use Rattle.vk_io.specs.declared.errors.OutsideErr.{OutsideErr}
use Rattle.vk_keeper_sql.specs.Transactions.{RunsAll, RunsAllInside, RunsInside, Step, StopsAmong, WhereBegun, WorksInside}
use Rattle.vk_keeper_sql.proofs.AtOnce.{keeps_same, survives_same, was_clean}

if_ok : {T E : Type 0} (P Q : T → Type 0) (result : Result T E) → ((v : T) → P v → Q v)
    → IfOk result P → IfOk result Q
if_ok P Q (Ok v) f h = f v h
if_ok P Q (Err e) f h = tt

if_err : {T E : Type 0} (P Q : E → Type 0) (result : Result T E) → ((e : E) → P e → Q e)
    → IfErr result P → IfErr result Q
if_err P Q (Ok v) f h = tt
if_err P Q (Err e) f h = f e h

-- a step that does A or stops for R, and one or the whole that does B or stops for Q
module _ {S T U E F : Type 0} {g : Ghosts S} {A : T → Held S → Held S → Type 0} {R : Held S → Held S → E → Type 0} {B : U → Held S → Held S → Type 0} {Q : Held S → Held S → F → Type 0} where
  -- a step behind one that was done, by why it stops
  behind : {old mid new : Held S} {v : T} {result : Result U F}
      (Stops : Held S → Held S → F → Type 0) → WorksInside g A R old mid (Ok v)
      → WorksInside g B Q mid new result
      → (HasCleanDisk (state g mid) → (e : F) → Q mid new e → Stops old new e)
      → WorksInside g (λ w o n. (m : Held S) × A v o m × B w m n) Stops old new result
  behind {old} {mid} {new} {v} {result} Stops first next so = record {
    done = λ clean. if_ok _ _ result
        (λ w last. (mid, first.done (was_clean _ _ next.crash clean), last)) (next.done clean);
    refused = λ clean. if_err _ _ result (so (was_clean _ _ next.crash clean)) (next.refused clean);
    crash = survives_then (state g old) (state g mid) (state g new) _ _ _ (λ _ db no. no)
        (λ _ db no. no) first.crash next.crash;
    stays = λ clean inside.
        let before = first.stays (was_clean _ _ next.crash clean) inside in
        let step = next.stays clean before.inside in
        record { kept = keeps_then _ _ _ before.kept step.kept; inside = step.inside };
  }

  -- a query behind what was done
  pub ask_behind : {old mid new : Held S} {v : T} {result : Result U F}
      → WorksInside g A R old mid (Ok v) → WorksInside g B Q mid new result
      → WorksInside g (λ w o n. (m : Held S) × A v o m × B w m n)
      (λ o n e. (m : Held S) × A v o m × Q m n e) old new result
  ask_behind {mid} {v} first next =
      behind (λ o n e. (m : Held S) × A v o m × Q m n e) first next
      (λ was e stops. (mid, first.done was, stops))

  -- what was done is told in other words
  pub done_as : {old new : Held S} {v : T} {w : U} → WorksInside g A R old new (Ok v)
      → (A v old new → B w old new) → WorksInside g B Q old new (Ok w)
  done_as step so = record {
    done = λ clean. so (step.done clean);
    refused = λ clean. tt;
    crash = step.crash;
    stays = λ clean inside.
        let stays = step.stays clean inside in record { kept = stays.kept; inside = stays.inside };
  }

  -- the whole is refused behind a step
  refused_so : {old new : Held S} {step : Result T E} {result : Result U F} (told : F)
      → WorksInside g A R old new step → (HasCleanDisk (state g new) → Q old new told)
      → result ≡ Err told → WorksInside g B Q old new result
  refused_so told step so is = rw is (record {
    done = λ clean. tt;
    refused = so;
    crash = step.crash;
    stays = λ clean inside. record { kept = (step.stays clean inside).kept; inside = tt };
  })

  -- why a step was refused is told in other words
  pub refused_as : {old new : Held S} {e : E} {result : Result U F} (told : F)
      → WorksInside g A R old new (Err e) → (R old new e → Q old new told) → result ≡ Err told
      → WorksInside g B Q old new result
  refused_as told step so = refused_so told step (λ clean. so (step.refused clean))

  -- what was done is why the whole is refused
  pub found_otherwise : {old new : Held S} {v : T} {result : Result U F} (told : F)
      → WorksInside g A R old new (Ok v) → (A v old new → Q old new told) → result ≡ Err told
      → WorksInside g B Q old new result
  found_otherwise told step so = refused_so told step (λ clean. so (step.done clean))

-- the same where a transaction has to have begun
module _ {S T U E F : Type 0} {g : Ghosts S} {A : T → Held S → Held S → Type 0} {R : Held S → Held S → E → Type 0} {B : U → Held S → Held S → Type 0} {Q : Held S → Held S → F → Type 0} where
  pub run_behind : {old mid new : Held S} {v : T} {result : Result U F}
      → WorksInside g A R old mid (Ok v) → WorksInside g B (WhereBegun g Q) mid new result
      → WorksInside g (λ w o n. (m : Held S) × A v o m × B w m n)
      (WhereBegun g (λ o n e. (m : Held S) × A v o m × Q m n e)) old new result
  run_behind {mid} {v} first next =
      behind (WhereBegun g (λ o n e. (m : Held S) × A v o m × Q m n e)) first next
      (λ was e stops. record {
        stops = λ inside. (mid, first.done was, stops.stops (first.stays was inside).inside);
      })

  pub stopped_as : {old new : Held S} {e : E} {result : Result U F} (told : F)
      → WorksInside g A (WhereBegun g R) old new (Err e) → (R old new e → Q old new told)
      → result ≡ Err told → WorksInside g B (WhereBegun g Q) old new result
  stopped_as told step so =
      refused_as told step (λ why. record { stops = λ inside. so (why.stops inside) })

  -- of a step whose refusal is told wherever it is refused
  pub asked_as : {old new : Held S} {e : E} {result : Result U F} (told : F)
      → WorksInside g A R old new (Err e) → (R old new e → Q old new told) → result ≡ Err told
      → WorksInside g B (WhereBegun g Q) old new result
  asked_as told step so = refused_as told step (λ why. record { stops = λ _. so why })

-- ---- statements one behind another

-- none of them
pub none_run : {S E : Type 0} {g : Ghosts S} {Q : Held S → Held S → E → Type 0} {now : Held S}
    → WorksInside g {T = Unit} (λ _. RunsAll g []) Q now now (Ok tt)
none_run {g} {now} = record {
  done = λ clean. refl;
  refused = λ clean. tt;
  crash = survives_same (state g now) _;
  stays = λ clean inside. record { kept = keeps_same (state g now); inside = inside };
}

module _ {S : Type 0} {g : Ghosts S} {statement : List ℕ} {columns : Row} (rest : List Step) where
  -- the first of them, and those behind it
  pub run_first : {old mid new : Held S} {result : Result Unit OutsideErr}
      → RunsInside g statement columns old mid (Ok tt) → RunsAllInside g rest mid new result
      → RunsAllInside g ((statement, columns) ∷ rest) old new result
  run_first {mid} first next =
      behind (WhereBegun g (StopsAmong g ((statement, columns) ∷ rest))) first next
      (λ was e stops. record {
        stops = λ inside.
            inr (mid, first.done was, stops.stops (first.stays was inside).inside);
      })

  -- the first of them was refused
  pub first_refused : {old new : Held S} {told : OutsideErr} {result : Result Unit OutsideErr}
      → RunsInside g statement columns old new (Err told) → result ≡ Err told
      → RunsAllInside g ((statement, columns) ∷ rest) old new result
  first_refused {told} first = stopped_as told first inl

-- of all these statements the rest is left
abbrev pub LeavesRest : {S : Type 0} → Ghosts S → List Step → List Step → Held S → Held S → Type 0
LeavesRest {S} g all rest old mid = (new : Held S) (result : Result Unit OutsideErr)
    → RunsAllInside g rest mid new result → RunsAllInside g all old new result

-- what stands from a place on
pub rest_at : {X : Type 0} (xs : List X) (i : ℕ) (x : X) → i < length xs → x ≡ get_or xs i x
    → drop i xs ≡ x ∷ drop (i + 1) xs
rest_at xs i x within is = drop_more xs i x within ∙ ap (λ y. y ∷ drop (i + 1) xs) (sym is)
