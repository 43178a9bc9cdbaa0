-- A store from before auctions had terms, lifted.
use Rattle.std.proofs.Common.{◌≡◌, ℕ, arith, length, pos, Bool, true, false, List, [], ◌∷◌, map, filter, codes, refl, ap, sym, subst, ◌∙◌, inl, inr}
use Rattle.std.specs.Prelude.{None, Some, Option, option_map, ◌||◌, IfSome, IsPermutation}
use Rattle.std.specs.Fmt.{digits}
use Rattle.std.specs.FinMap.{get}
use Rattle.std.specs.List.{list_any, list_all}
use Rattle.std.proofs.lemmas.Bool.{cases_Bool}
use Rattle.std.proofs.lemmas.List.Sorted.{IsPermutation-map, list_any-IsPermutation}
use Rattle.sqlite_value.specs.declared.value.Value.TheVariants.{Null, Int}
use Rattle.sqlite_value.specs.Order.{Row, column}
use Rattle.sqlite_trees.proofs.ListLemmas.{map-map}
use Rattle.sqlite_catalog.proofs.ListFacts.{filter_all}
use Rattle.sqlite_schema.specs.declared.command.Command.TheVariants.{Select, Update}
use Rattle.sqlite_schema.specs.declared.program.Program.{Program}
use Rattle.sqlite_sql.specs.Term.{holds, col}
use Rattle.sqlite_sql.specs.Program.{overlay}
use Rattle.sqlite_sql.specs.Query.{Output, output, IsAnswer}
use Rattle.sqlite.specs.Query.{Query}
use Rattle.sqlite.specs.Change.{created}
use Rattle.sqlite.specs.Effect.{Database}
use Rattle.sqlite.specs.Store.{Ghosts}
use Rattle.sqlite.specs.Held.{Held, state}
use Rattle.sqlite.specs.State.{State, Shown}
use Rattle.sqlite.specs.Listing.{understood, reads_listing}
use Rattle.sqlite_tied.specs.Compute.{everything}
use Rattle.sqlite.proofs.Callers.{IsPlain, command_of, statement_of, runs_as, reads_as}
use Rattle.vk_keeper.specs.declared.auction.FirstAuction.{FirstAuction}
use Rattle.vk_keeper.specs.First.{FirstLedger, lifted, lifted_ledger}
use Rattle.vk_keeper.specs.Ledgers.{IsKeptUnder}
use Rattle.vk_keeper.proofs.Firsts.{lifted_right, get_lifted}
use Rattle.vk_keeper_sql.specs.declared.layout.Layout.TheVariants.{Blank, First, Second, Other}
use Rattle.vk_rows.specs.Columns.{seal_texts}
use Rattle.vk_keeper_sql.specs.Statements.{make_terms, next_number, number_query, ids_query}
use Rattle.vk_keeper_sql.specs.Transactions.{Ran}
use Rattle.vk_keeper_sql.specs.Opening.{LiftsTables, Prepares, PreparesFrom}
use Rattle.vk_store_laws.specs.Tables.{about, terms, first_store_schema, store_schema}
use Rattle.vk_store_laws.specs.Rows.{IsTableOfRows, OnlyTable, has_id, under, head_columns, seal_columns}
use Rattle.vk_store_laws.specs.Holding.{IsStore, Holds, head_row, seal_rows}
use Rattle.vk_store_laws.specs.Telling.{TablesTell}
use Rattle.vk_store_laws.specs.Former.{IsFirstStore, HoldsFirst, IsFirstUnder, TellsFirst}
use Rattle.vk_store_laws.proofs.Texts.{plain_query}
use Rattle.vk_store_laws.proofs.Selects.{matches_are}
use Rattle.vk_store_laws.proofs.Finds.{shown_leaves}
use Rattle.vk_store_laws.proofs.Tables.{updates}
use Rattle.vk_store_laws.proofs.Under.{unlike}
use Rattle.vk_store_laws.proofs.Making.{count_is, Defines, makes}
use Rattle.vk_store_laws.proofs.Marks.{IsMarked, names, adds_terms}

-- ---- the texts

terms_from : Defines first_store_schema make_terms terms
unfolding understood everything make_terms
terms_from =
    record { command = refl; text = refl; plain = (refl, refl); table_is = refl; uncounted = refl }

lifted_schema : created first_store_schema terms ≡ store_schema
unfolding digits
lifted_schema = refl

pub number_plain : IsPlain (understood first_store_schema number_query)
unfolding understood everything number_query
number_plain = (refl, refl)

abbrev all_ids : Query
all_ids = plain_query 1 [] (col 1 1 ∷ [])

ids_are : (command_of (understood store_schema ids_query)
    ≡ Select (record { lets = []; body = all_ids }) (codes "id" ∷ []))
    × (reads_listing store_schema ids_query ≡ false)
unfolding understood everything ids_query
ids_are = (refl, refl)

ids_plain : IsPlain (understood store_schema ids_query)
unfolding understood everything ids_query
ids_plain = (refl, refl)

abbrev each_number : Program
each_number = record { lets = []; body = plain_query 0 [] (col 1 0 ∷ col 1 0 ∷ col 0 0 ∷ []) }

next_is : command_of (understood store_schema next_number) ≡ Update 0 each_number
unfolding understood everything next_number
next_is = refl

next_plain : IsPlain (understood store_schema next_number)
unfolding understood everything next_number
next_plain = (refl, refl)

-- ---- what they do

-- the ids of all auctions are read
finds_ids : (old new : State) (rows : List Row) → old.now.schema ≡ store_schema
    → Shown ids_query [] old new rows
    → IsPermutation (map (λ r. column r 1 ∷ []) (old.now.trees 1)) rows
finds_ids old new rows has shown =
    let got = reads_as ids_query [] old new store_schema has _ ids_are.0 ids_plain ids_are.1 rows
    shown in
    let a : IsAnswer all_ids (overlay old.now.trees []) [] rows = got.answer Null in
    let all : filter (λ r. list_all (holds ([] ∷ r ∷ [])) []) (old.now.trees 1) ≡ old.now.trees 1 =
    filter_all (λ r. list_all (holds ([] ∷ r ∷ [])) []) (old.now.trees 1) (λ r h. refl) in
    let staged = a.grouped ∙ (matches_are Null (overlay old.now.trees []) [] 1 []
    ∙ ap (map (λ r. [] ∷ r ∷ [])) all) in
    let kept = a.distinct ∙ (ap (map (output all_ids)) staged
    ∙ map-map (output all_ids) (λ r. [] ∷ r ∷ []) (old.now.trees 1)) in
    let shown_rows = ap (map (λ (o : Output). o.1)) kept
    ∙ map-map (λ (o : Output). o.1) (λ r. output all_ids ([] ∷ r ∷ [])) (old.now.trees 1) in
    subst (λ all. IsPermutation all rows) shown_rows
    (subst (IsPermutation (map (λ (o : Output). o.1) a.kept)) (sym a.shown)
    (IsPermutation-map (λ (o : Output). o.1) a.kept a.ordered a.same))

module _ {S : Type 0} (g : Ghosts S) where
  numbers : (old new : Held S) → (state g old).now.schema ≡ store_schema
      → Ran g next_number (Int (pos 2) ∷ []) old new
      → OnlyTable 0 store_schema (state g old).now (state g new).now
  unfolding Ran
  numbers old new has ran =
      let params = Int (pos 2) ∷ [] in
      let w = runs_as next_number params (state g old) (state g new) store_schema has _ next_is
      next_plain ran.0 ran.1.0 in
      updates store_schema 0 about refl (λ keys db edit. refl) (state g old) (state g new) has
      (statement_of next_number (understood store_schema next_number)) params ran.0 each_number
      w

any_mapped : (id : List ℕ) (rows : List Row)
    → list_any (names id) (map (λ r. column r 1 ∷ []) rows) ≡ list_any (has_id id) rows
any_mapped id [] = refl
any_mapped id (r ∷ rows) = ap (λ b. has_id id r || b) (any_mapped id rows)

-- the rows of auctions and seals stay, and each id of an auction's row has terms of version 1
record IsLifted (old new : Database) : Type 0 where
  store : IsStore new
  auctions : new.trees 1 ≡ old.trees 1
  seals : new.trees 3 ≡ old.trees 3
  terms : (id : List ℕ) → IsMarked (list_any (has_id id) (old.trees 1)) id [] (new.trees 6)

module _ {S : Type 0} (g : Ghosts S) where
  tables_lifted : (old new : Held S) → IsFirstStore (state g old).now → LiftsTables g old new
      → IsLifted (state g old).now (state g new).now
  tables_lifted old new store it =
      let made = makes g old it.made first_store_schema make_terms terms store.schema terms_from
      it.make in
      let begun : IsStore (state g it.made).now = record {
        schema = made.0 ∙ lifted_schema;
        auctions = subst IsTableOfRows (sym made.2.1.0) store.auctions;
        terms = subst IsTableOfRows (sym made.1) (tt, tt);
        seals = subst IsTableOfRows (sym made.2.1.1.0) store.seals;
      } in
      let asked : (state g it.asked).now ≡ (state g it.made).now =
      (shown_leaves _ _ _ (state g it.made) (state g it.asked) it.ids begun.schema ids_plain
      it.query).0.now_is in
      let ids = finds_ids (state g it.made) (state g it.asked) it.ids begun.schema it.query in
      let filled = adds_terms g it.ids it.asked it.filled (subst IsStore (sym asked) begun) it.fill
      in
      let last = numbers g it.filled new filled.0.store.schema it.number in
      let heads : (state g new).now.trees 1 ≡ (state g it.filled).now.trees 1 =
      last.tables.1.0 (unlike 1 0 refl) in
      let seals : (state g new).now.trees 3 ≡ (state g it.filled).now.trees 3 =
      last.tables.1.1.0 (unlike 3 0 refl) in
      let rows : (state g new).now.trees 6 ≡ (state g it.filled).now.trees 6 =
      last.tables.1.1.1.0 (unlike 6 0 refl) in
      let blank : (state g it.asked).now.trees 6 ≡ [] = ap (λ (d : Database). d.trees 6) asked
      ∙ made.1 in
      let any : (id : List ℕ) → list_any (names id) it.ids
      ≡ list_any (has_id id) ((state g old).now.trees 1) = λ id.
      sym (list_any-IsPermutation (names id) _ _ ids)
      ∙ (any_mapped id ((state g it.made).now.trees 1) ∙ ap (list_any (has_id id)) made.2.1.0)
      in
      record {
        store = record {
          schema = last.schema;
          auctions = subst IsTableOfRows (sym heads) filled.0.store.auctions;
          terms = subst IsTableOfRows (sym rows) filled.0.store.terms;
          seals = subst IsTableOfRows (sym seals) filled.0.store.seals;
        };
        auctions = heads ∙ (filled.0.auctions
            ∙ (ap (λ (d : Database). d.trees 1) asked ∙ made.2.1.0));
        seals = seals ∙ (filled.0.seals ∙ (ap (λ (d : Database). d.trees 3) asked ∙ made.2.1.1.0));
        terms = λ id. subst (λ b. IsMarked b id [] ((state g new).now.trees 6)) (any id)
            (subst (λ before. IsMarked (list_any (names id) it.ids) id before
            ((state g new).now.trees 6)) blank
            (subst (IsMarked (list_any (names id) it.ids) id ((state g it.asked).now.trees 6))
            (sym rows) (filled.1 id)));
      }

-- ---- what they tell

none_of : (p : Row → Bool) (rows : List Row) → filter p rows ≡ [] → list_any p rows ≡ false
none_of p [] h = refl
none_of p (r ∷ rows) h = elim (cases_Bool (p r)) [
  | inl passes ↦ absurd (let e = rw passes at h in cc)
  | inr fails ↦ rw fails (none_of p rows (rw fails at h))
]

some_of : (p : Row → Bool) (f : Row → Row) (rows : List Row) (row : Row)
    → map f (filter p rows) ≡ row ∷ [] → list_any p rows ≡ true
some_of p f [] row h = absurd (let e = h in cc)
some_of p f (r ∷ rows) row h = elim (cases_Bool (p r)) [
  | inl passes ↦ rw passes refl
  | inr fails ↦ rw fails (some_of p f rows row (rw fails at h))
]

module _ (old new : Database) (it : IsLifted old new) where
  holds_lifted : (id : List ℕ) (found : Option FirstAuction) → HoldsFirst old.trees id found
      → Holds new.trees id (option_map lifted found)
  holds_lifted id None none = record {
    head = ap (under id) it.auctions ∙ none.0;
    terms = subst (λ b. IsMarked b id [] (new.trees 6)) (none_of (has_id id) (old.trees 1) none.0)
        (it.terms id);
    seals = ap (under id) it.seals ∙ none.1;
  }
  holds_lifted id (Some first) (own, stands) = (
    own,
    record {
      head = ap (λ rows. map head_columns (under first.id rows)) it.auctions ∙ stands.head;
      terms = subst (λ b. IsMarked b first.id [] (new.trees 6))
          (some_of (has_id first.id) head_columns (old.trees 1) (head_row (lifted first))
          stands.head) (it.terms first.id);
      seals = subst (λ rows. IsPermutation (map seal_columns (under first.id rows))
          (seal_rows 0 (map seal_texts first.seals))) (sym it.seals) stands.seals;
    },
  )

  kept_under : (id : List ℕ) (found : Option FirstAuction) → IfSome found (IsFirstUnder id)
      → IfSome (option_map lifted found) (IsKeptUnder id)
  kept_under id None h = tt
  kept_under id (Some first) h = record { own = h.own; right = lifted_right first h.right }

  told_lifted : (firsts : FirstLedger) → TellsFirst old.trees firsts
      → TablesTell new.trees (lifted_ledger firsts)
  told_lifted firsts tells = record {
    right = λ id. subst (λ o. IfSome o (IsKeptUnder id)) (sym (get_lifted firsts id))
        (kept_under id (get firsts id) (tells.right id));
    held = λ id bytes. subst (Holds new.trees id) (sym (get_lifted firsts id))
        (holds_lifted id (get firsts id) (tells.held id bytes));
  }

-- a store from before is a store once it was prepared, and tells its ledger lifted
prepared_from : {S : Type 0} (g : Ghosts S) (old new : Held S) (firsts : FirstLedger)
    → IsFirstStore (state g old).now → TellsFirst (state g old).now.trees firsts
    → PreparesFrom g First old new → IsStore (state g new).now
    × TablesTell (state g new).now.trees (lifted_ledger firsts)
prepared_from g old new firsts store tells it =
    let mid = it.0 in
    let same : (state g mid).now ≡ (state g old).now =
    (shown_leaves _ _ _ (state g old) (state g mid) it.1.rows store.schema number_plain
    it.1.query).0.now_is in
    let made = tables_lifted g mid new (subst IsFirstStore (sym same) store) it.2 in (
      made.store,
      told_lifted (state g mid).now (state g new).now made firsts
          (subst (λ (d : Database). TellsFirst d.trees firsts) (sym same) tells),
    )

-- nothing else can be made of it: the tables of a new store, and those of the number 2, are others
pub prepared_tells : {S : Type 0} (g : Ghosts S) (old : Held S) (whole : Database)
    (firsts : FirstLedger) → IsFirstStore (state g old).now
    → TellsFirst (state g old).now.trees firsts
    → Prepares g old whole → IsStore whole × TablesTell whole.trees (lifted_ledger firsts)
prepared_tells g old whole firsts store tells (Blank, has, it) =
    absurd (let e : ◌≡◌ {A = ℕ} 3 0 =
    count_is old.schema first_store_schema 0 store.schema (ap length has.0) in omega (arith, e))
prepared_tells g old whole firsts store tells (First, has, it) =
    let last = it.0 in
    let made = prepared_from g (record old { in_transaction = true }) last firsts store tells it.1
    in (
      subst IsStore (sym it.2) made.0,
      subst (λ (d : Database). TablesTell d.trees (lifted_ledger firsts)) (sym it.2) made.1,
    )
prepared_tells g old whole firsts store tells (Second, has, it) =
    absurd (let e : ◌≡◌ {A = ℕ} 3 4 =
    count_is old.schema first_store_schema 4 store.schema has.tables in omega (arith, e))
prepared_tells g old whole firsts store tells (Other, has, it) = absurd it.1
