-- What a crash leaves of a store on which one transaction is run.
use Rattle.std.proofs.Common.{◌⊎◌, inl, inr, subst, sym, Result, Ok, Err}
use Rattle.std.specs.Prelude.{OnOk}
use Rattle.sqlite.specs.Tree.{Trees}
use Rattle.sqlite.specs.Effect.{Database}
use Rattle.sqlite.specs.State.{State, HasCleanDisk}
use Rattle.vk_keeper_sql.specs.Transactions.{CommitsAtOnce}

where_ok : {E P Q : Type 0} (result : Result Unit E) → (P → Q) → OnOk result P → OnOk result Q
where_ok (Ok done) step h = step h
where_ok (Err refusal) step h = tt

-- what was told before, or what is told of all that the transaction makes
pub at_once : {E : Type 0} (Makes : Database → Type 0) (Before After : Trees → Type 0)
    (old new : State) (result : Result Unit E)
    → ((whole : Database) → Makes whole → After whole.trees)
    → ((trees : Trees) → old.may_leave trees → Before trees) → CommitsAtOnce Makes old new result
    → HasCleanDisk new
    → ((trees : Trees) → new.may_leave trees → Before trees ⊎ After trees)
    × OnOk result (After new.committed.trees)
at_once Makes Before After old new result made before once clean = (
  λ trees left. elim (once.crash.crash clean trees left) [
    | inl earlier ↦ inl (before trees earlier)
    | inr whole ↦ inr (subst After (sym whole.0) (made once.whole whole.1))
  ],
  where_ok result
      (λ done. subst (λ (d : Database). After d.trees) (sym done.0) (made once.whole done.1))
      (once.done clean),
)

-- the same where both tell the same
pub at_once_alike : {E : Type 0} (Makes : Database → Type 0) (Modelled : Trees → Type 0)
    (old new : State) (result : Result Unit E)
    → ((whole : Database) → Makes whole → Modelled whole.trees)
    → ((trees : Trees) → old.may_leave trees → Modelled trees) → CommitsAtOnce Makes old new result
    → HasCleanDisk new
    → ((trees : Trees) → new.may_leave trees → Modelled trees)
    × OnOk result (Modelled new.committed.trees)
at_once_alike Makes Modelled old new result made before once clean =
    let left = at_once Makes Modelled Modelled old new result made before once clean in
    (λ trees leaves. elim (left.0 trees leaves) [ inl was ↦ was | inr is ↦ is ], left.1)

-- where it was done, the store sees what the transaction makes
pub seen_at_once : {E : Type 0} (Makes After : Database → Type 0)
    (old new : State) (result : Result Unit E)
    → ((whole : Database) → Makes whole → After whole)
    → CommitsAtOnce Makes old new result → HasCleanDisk new → OnOk result (After new.now)
seen_at_once Makes After old new (Ok done) made once clean =
    subst After (sym (once.seen clean).same)
    (subst After (sym (once.done clean).0) (made once.whole (once.done clean).1))
seen_at_once Makes After old new (Err refusal) made once clean = tt
