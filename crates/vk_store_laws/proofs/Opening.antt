-- A store that is opened, for the first time or again.
use Rattle.std.proofs.Common.{◌≡◌, ℕ, true, arith, length, refl, ap, sym, subst, ◌∙◌}
use Rattle.std.specs.FinMap.{empty}
use Rattle.sqlite.specs.Effect.{Database}
use Rattle.sqlite.specs.Store.{Ghosts}
use Rattle.sqlite.specs.Held.{Held, state}
use Rattle.sqlite.specs.Listing.{understood}
use Rattle.sqlite_tied.specs.Compute.{everything}
use Rattle.sqlite.proofs.Callers.{IsPlain}
use Rattle.vk_keeper_sql.specs.declared.layout.Layout.TheVariants.{Blank, First, Second, Other}
use Rattle.vk_keeper_sql.specs.Statements.{number_query}
use Rattle.vk_keeper_sql.specs.Opening.{Prepares}
use Rattle.vk_store_laws.specs.Tables.{no_schema, store_schema}
use Rattle.vk_store_laws.specs.Holding.{IsStore}
use Rattle.vk_store_laws.specs.Telling.{TablesTell}
use Rattle.vk_store_laws.proofs.Finds.{shown_leaves}
use Rattle.vk_store_laws.proofs.Making.{count_is, made_is_store}
use Rattle.vk_store_laws.proofs.Modelled.{nothing_is_told}

pub number_plain : IsPlain (understood store_schema number_query)
unfolding understood everything number_query
number_plain = (refl, refl)

-- it stays
pub prepared_stays : {S : Type 0} (g : Ghosts S) (old : Held S) (whole : Database)
    → IsStore (state g old).now → Prepares g old whole → whole ≡ (state g old).now
prepared_stays g old whole store (Blank, has, it) =
    absurd (let e : ◌≡◌ {A = ℕ} 4 0 =
    count_is old.schema store_schema 0 store.schema (ap length has.0) in omega (arith, e))
prepared_stays g old whole store (First, has, it) =
    absurd (let e : ◌≡◌ {A = ℕ} 4 3 = count_is old.schema store_schema 3 store.schema has.tables in
    omega (arith, e))
prepared_stays g old whole store (Second, has, it) =
    it.2
    ∙ (shown_leaves _ _ _ (state g (record old { in_transaction = true })) (state g it.0)
    it.1.rows store.schema number_plain it.1.query).0.now_is
prepared_stays g old whole store (Other, has, it) = absurd it.1

-- ---- a store without tables

pub prepared_new : {S : Type 0} (g : Ghosts S) (old : Held S) (whole : Database)
    → (state g old).now.schema ≡ no_schema → Prepares g old whole
    → IsStore whole × TablesTell whole.trees empty
prepared_new g old whole none (Blank, has, it) =
    let last = it.0 in
    let made = made_is_store g (record old { in_transaction = true }) last none it.1 in
    subst (λ (d : Database). IsStore d × TablesTell d.trees empty) (sym it.2)
    (made.0, nothing_is_told (state g last).now.trees made.1 made.2 made.3)
prepared_new g old whole none (First, has, it) =
    absurd (let e : ◌≡◌ {A = ℕ} 0 3 = count_is old.schema no_schema 3 none has.tables in
    omega (arith, e))
prepared_new g old whole none (Second, has, it) =
    absurd (let e : ◌≡◌ {A = ℕ} 0 4 = count_is old.schema no_schema 4 none has.tables in
    omega (arith, e))
prepared_new g old whole none (Other, has, it) = absurd it.1
