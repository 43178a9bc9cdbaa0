-- A store that is as it has to be is refused by its connection alone.
use Rattle.std.proofs.Common.{◌≡◌, ◌∙◌, ℕ, arith, length, pos, true, false, List, [], ◌∷◌, map, flat_map, min, codes, inl, inr, refl, ap, sym, subst, Result, Ok, Err}
use Rattle.std.specs.Prelude.{◌≢◌, IsPermutation, None}
use Rattle.sqlite_value.specs.declared.value.Value.{Value}
use Rattle.sqlite_value.specs.declared.value.Value.TheVariants.{Null, Int}
use Rattle.sqlite_value.specs.Order.{Row}
use Rattle.sqlite_trees.specs.Tree.{Trees}
use Rattle.sqlite_schema.specs.declared.command.Command.TheVariants.{Select}
use Rattle.sqlite_sql.specs.Term.{Env, lit, col}
use Rattle.sqlite_sql.specs.Program.{overlay}
use Rattle.sqlite_sql.specs.Query.{Output, output, page, IsAnswer, matches_as, inner, counted, end}
use Rattle.sqlite.specs.Effect.{Database}
use Rattle.sqlite.specs.Query.{Query}
use Rattle.sqlite.specs.Store.{Ghosts}
use Rattle.sqlite.specs.Held.{Held, state}
use Rattle.sqlite.specs.State.{State, Shown}
use Rattle.sqlite.specs.Listing.{understood, reads_listing}
use Rattle.sqlite_schema.specs.declared.schema.Schema.{Schema}
use Rattle.sqlite_schema.specs.declared.schema.Table.{Table}
use Rattle.sqlite_tied.specs.Compute.{everything}
use Rattle.sqlite.proofs.Callers.{IsPlain, command_of, one_permutation, reads_as}
use Rattle.vk_io.specs.declared.errors.OutsideErr.{OutsideErr}
use Rattle.vk_keeper_sql.specs.declared.errors.OpenErr.{OpenErr}
use Rattle.vk_keeper_sql.specs.declared.layout.Layout.{Layout}
use Rattle.vk_keeper_sql.specs.declared.layout.Layout.TheVariants.{Blank, First, Second, Other}
use Rattle.vk_keeper_sql.specs.Layouts.{AreFirst, HasLayout, HasShape, IsFirst, IsSecond, TableShape, shape_of}
use Rattle.vk_keeper_sql.specs.Refusals.{open_refusal}
use Rattle.vk_keeper_sql.specs.Statements.{number_query}
use Rattle.vk_keeper_sql.specs.Opening.{filling, making}
use Rattle.vk_keeper_sql.specs.Transactions.{Answers, Step, StopsAmong}
use Rattle.vk_keeper_sql.specs.Unopened.{IsRefusedFor, StopsCheck, StopsFrom, StopsLifting, in_transaction, not_prepared, not_committed, not_made, not_first, not_second, not_lifted, not_read, not_its_own, query_refused, other_number, make_refused, ids_refused, terms_refused, number_refused}
use Rattle.vk_keeper_sql.specs.Versions.{number_of}
use Rattle.vk_store_laws.specs.Tables.{about, auctions, seals, terms, placed, no_schema, first_store_schema, store_schema}
use Rattle.vk_store_laws.specs.Former.{IsFirstStore}
use Rattle.vk_store_laws.specs.Holding.{IsStore}
use Rattle.vk_store_laws.specs.Refused.{IsOfConnection, statement_refused, question_refused, commit_refused}
use Rattle.vk_store_laws.proofs.Texts.{plain_query}
use Rattle.vk_store_laws.proofs.Making.{count_is}
use Rattle.vk_store_laws.proofs.Lifting.{number_plain as first_plain}
use Rattle.vk_store_laws.proofs.Opening.{number_plain as second_plain}

-- ---- its number

-- how many rows `about` has, beside the number of each
abbrev number_body : Query
number_body = record (plain_query 0 [] (col 2 0 ∷ col 1 1 ∷ [])) {
  from = inner 0 (counted 9223372036854775807 (inner 0 end) [] end);
  limit = lit (Int (pos 1));
}

abbrev IsNumberQuery : Schema → Type 0
IsNumberQuery schema = (command_of (understood schema number_query)
    ≡ Select (record { lets = []; body = number_body })
    (codes "(SELECT count(*) FROM about)" ∷ codes "version" ∷ []))
    × (reads_listing schema number_query ≡ false)

first_query : IsNumberQuery first_store_schema
unfolding understood everything number_query
first_query = (refl, refl)

second_query : IsNumberQuery store_schema
unfolding understood everything number_query
second_query = (refl, refl)

-- each row with their count
abbrev tallied : List Row → List Env
tallied rows = flat_map (λ r. ([] ∷ r ∷ (Int (pos (min 9223372036854775807
    (length (flat_map (λ (other : Row). ([] ∷ r ∷ other ∷ []) ∷ []) rows)))) ∷ []) ∷ []) ∷ []) rows

one_tallied : (db : Trees) (row : Row) → db 0 ≡ row ∷ []
    → matches_as Null db [] number_body.from ([] ∷ [])
    ≡ ([] ∷ row ∷ (Int (pos 1) ∷ []) ∷ []) ∷ []
one_tallied db row is = ap tallied is

-- the query for the number shows one row, and the number in it
number_shown : (schema : Schema) (number : ℕ) → IsNumberQuery schema
    → IsPlain (understood schema number_query) → (old new : State) (rows : List Row) (rowid : Value)
    → old.now.schema ≡ schema → old.now.trees 0 ≡ (rowid ∷ Int (pos number) ∷ []) ∷ []
    → Shown number_query [] old new rows
    → rows ≡ (Int (pos 1) ∷ Int (pos number) ∷ []) ∷ []
number_shown schema number is plain old new rows rowid has one shown =
    let a : IsAnswer number_body (overlay old.now.trees []) [] rows =
    (reads_as number_query [] old new schema has _ is.0 plain is.1 rows shown).answer Null in
    let staged = a.grouped
    ∙ one_tallied (overlay old.now.trees []) (rowid ∷ Int (pos number) ∷ []) one in
    let first : Output = ([], Int (pos 1) ∷ Int (pos number) ∷ []) in
    let kept : a.kept ≡ first ∷ [] = a.distinct ∙ ap (map (output number_body)) staged in
    let ordered : a.ordered ≡ first ∷ [] = one_permutation first a.ordered
    (subst (λ all. IsPermutation all a.ordered) kept a.same) in
    a.shown ∙ ap (λ all. page number_body [] (map (λ (o : Output). o.1) all)) ordered

-- ---- its tables

shaped : (shape : TableShape) (table : Table) → table.name ≡ shape.name → table.key ≡ None
    → table.checks ≡ [] → table.references ≡ [] → map shape_of table.columns ≡ shape.columns
    → table.uniques ≡ shape.keys → HasShape shape table
shaped shape table name rowid checks references columns keys = record {
  plain = record { name = name; rowid = rowid; checks = checks; references = references };
  columns = columns;
  keys = keys;
}

are_first : (more : List Table) → AreFirst (about ∷ placed auctions 1 ∷ placed seals 3 ∷ more)
are_first more = record {
  about = (about, (0, omega arith, refl), shaped _ _ refl refl refl refl refl refl);
  auction = (placed auctions 1, (1, omega arith, refl), shaped _ _ refl refl refl refl refl refl);
  seal = (placed seals 3, (2, omega arith, refl), shaped _ _ refl refl refl refl refl refl);
}

first_is : IsFirst first_store_schema
first_is = record { first = are_first []; tables = refl; indexes = refl; views = refl }

second_is : IsSecond store_schema
second_is = record {
  first = are_first (placed terms 6 ∷ []);
  terms = (placed terms 6, (3, omega arith, refl), shaped _ _ refl refl refl refl refl refl);
  tables = refl;
  indexes = refl;
  views = refl;
}

-- a schema with another count of tables
apart : (schema it : Schema) (count : ℕ) → schema ≡ it → length schema.tables ≡ count
    → length it.tables ≢ count → ⊥
apart schema it count is many never = never (count_is schema it count is many)

is_blank : (schema : Schema) (layout : Layout) → schema ≡ no_schema → HasLayout layout schema
    → layout ≡ Blank
is_blank schema Blank is has = refl
is_blank schema First is has =
    absurd (apart schema no_schema 3 is has.tables (λ e. omega (arith, e)))
is_blank schema Second is has =
    absurd (apart schema no_schema 4 is has.tables (λ e. omega (arith, e)))
is_blank schema Other is has = absurd (has.blank (rw is (refl, refl)))

is_first : (schema : Schema) (layout : Layout) → schema ≡ first_store_schema
    → HasLayout layout schema → layout ≡ First
is_first schema Blank is has =
    absurd (apart schema first_store_schema 0 is (ap length has.0) (λ e. omega (arith, e)))
is_first schema First is has = refl
is_first schema Second is has =
    absurd (apart schema first_store_schema 4 is has.tables (λ e. omega (arith, e)))
is_first schema Other is has = absurd (has.first (subst IsFirst (sym is) first_is))

is_second : (schema : Schema) (layout : Layout) → schema ≡ store_schema → HasLayout layout schema
    → layout ≡ Second
is_second schema Blank is has =
    absurd (apart schema store_schema 0 is (ap length has.0) (λ e. omega (arith, e)))
is_second schema First is has =
    absurd (apart schema store_schema 3 is has.tables (λ e. omega (arith, e)))
is_second schema Second is has = refl
is_second schema Other is has = absurd (has.second (subst IsSecond (sym is) second_is))

-- ---- what is left

abbrev number_or : Result ℕ OpenErr → ℕ
number_or (Ok number) = number
number_or (Err why) = 0

module _ {S : Type 0} (g : Ghosts S) where
  among : (steps : List Step) (old new : Held S) (told : OutsideErr) (why : OpenErr)
      → why ≡ open_refusal told → StopsAmong g steps old new told → IsOfConnection g why
  among [] old new told why is stops = absurd stops
  among (next ∷ rest) old new told why is (inl refused) =
      statement_refused old new next.0 next.1 told refused is
  among (next ∷ rest) old new told why is (inr (mid, ran, more)) =
      among rest mid new told why is more

  unlifted : (old new : Held S) (told : OutsideErr) (why : OpenErr) → why ≡ open_refusal told
      → StopsLifting g old new told → IsOfConnection g why
  unlifted old new told why is (make_refused refused) =
      statement_refused old new _ _ told refused is
  unlifted old new told why is (ids_refused made ran refused) =
      question_refused made new _ _ told refused is
  unlifted old new told why is (terms_refused made asked ids ran query stops) =
      among (filling ids) asked new told why is stops
  unlifted old new told why is (number_refused made asked filled ids ran query fill refused) =
      statement_refused filled new _ _ told refused is

  -- the query for the number of a store shows this one
  abbrev ShowsOf : ℕ → Held S → Type 0
  ShowsOf number old = (new : Held S) (rows : List Row) → Answers g number_query [] old new rows
      → number_of rows ≡ Ok number

  unchecked : (number : ℕ) (old new : Held S) (why : OpenErr) → ShowsOf number old
      → StopsCheck g number old new why → IsOfConnection g why
  unchecked number old new why one (not_read (query_refused told refused is)) =
      question_refused old new _ _ told refused is
  unchecked number old new why one (not_read (other_number rows query is)) =
      absurd (let e = sym (one new rows query) ∙ is in cc)
  unchecked number old new why one (not_its_own found numbered apart is) =
      absurd (apart (ap number_or (sym numbered.shown ∙ one new numbered.rows numbered.query)))

  stopped_blank : (old new : Held S) (why : OpenErr) → StopsFrom g old new why Blank
      → IsOfConnection g why
  stopped_blank old new why (not_made told stops is) = among making old new told why is stops

  stopped_first : (old new : Held S) (why : OpenErr) → ShowsOf 1 old
      → StopsFrom g old new why First → IsOfConnection g why
  stopped_first old new why one (not_first check) = unchecked 1 old new why one check
  stopped_first old new why one (not_lifted mid told numbered stops is) =
      unlifted mid new told why is stops

  stopped_second : (old new : Held S) (why : OpenErr) → ShowsOf 2 old
      → StopsFrom g old new why Second → IsOfConnection g why
  stopped_second old new why two (not_second check) = unchecked 2 old new why two check

  refused_by : (old new : Held S) (why : OpenErr) (layout : Layout) → old.in_transaction ≡ false
      → ((found : Layout) → HasLayout found old.schema → found ≡ layout)
      → ((mid : Held S) → StopsFrom g (record old { in_transaction = true }) mid why layout
      → IsOfConnection g why)
      → IsRefusedFor g old new why → IsOfConnection g why
  refused_by old new why layout alone own stopped (in_transaction inside same is) =
      absurd (let e = sym alone ∙ inside in cc)
  refused_by old new why layout alone own stopped (not_prepared found last has stops undone) =
      stopped last (subst (StopsFrom g (record old { in_transaction = true }) last why)
      (own found has) stops)
  refused_by old new why layout alone own stopped
      (not_committed found last error has made failed is) =
      commit_refused last new error failed is

  pub new_refused : (old new : Held S) (why : OpenErr) → old.in_transaction ≡ false
      → (state g old).now.schema ≡ no_schema → IsRefusedFor g old new why → IsOfConnection g why
  new_refused old new why alone none =
      refused_by old new why Blank alone (λ found. is_blank old.schema found none)
      (λ mid. stopped_blank (record old { in_transaction = true }) mid why)

  -- such a content, whose number stands in one row, is refused by its connection alone
  abbrev pub IsRefusedAlone : (Database → Type 0) → ℕ → Type 0
  IsRefusedAlone Holds number = (old new : Held S) (why : OpenErr) (rowid : Value)
      → old.in_transaction ≡ false → Holds (state g old).now
      → (state g old).now.trees 0 ≡ (rowid ∷ Int (pos number) ∷ []) ∷ []
      → IsRefusedFor g old new why → IsOfConnection g why

  -- by the layout that the schema has, whose number the query shows
  refused_at : (layout : Layout) (schema : Schema) (number : ℕ) → IsNumberQuery schema
      → IsPlain (understood schema number_query)
      → number_of ((Int (pos 1) ∷ Int (pos number) ∷ []) ∷ []) ≡ Ok number
      → ((it : Schema) (found : Layout) → it ≡ schema → HasLayout found it → found ≡ layout)
      → ((begun mid : Held S) (why : OpenErr) → ShowsOf number begun
      → StopsFrom g begun mid why layout → IsOfConnection g why)
      → IsRefusedAlone (λ db. db.schema ≡ schema) number
  refused_at layout schema number is plain read own stops old new why rowid alone has one =
      let begun = record old { in_transaction = true } in
      refused_by old new why layout alone (λ found. own old.schema found has)
      (λ mid. stops begun mid why
      (λ next rows query. ap number_of (number_shown schema number is plain (state g begun)
      (state g next) rows rowid has one query) ∙ read))

  pub first_refused : IsRefusedAlone IsFirstStore 1
  first_refused old new why rowid alone store =
      refused_at First first_store_schema 1 first_query first_plain refl is_first stopped_first old
      new why rowid alone store.schema

  pub second_refused : IsRefusedAlone IsStore 2
  second_refused old new why rowid alone store =
      refused_at Second store_schema 2 second_query second_plain refl is_second stopped_second old
      new why rowid alone store.schema
