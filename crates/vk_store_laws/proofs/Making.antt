-- A store whose tables were made tells no auction.
use Rattle.std.proofs.Common.{◌≡◌, ℕ, pos, false, List, [], ◌∷◌, length, Ok, refl, ap, sym, subst, ◌∙◌}
use Rattle.std.specs.Prelude.{None}
use Rattle.std.specs.Fmt.{digits}
use Rattle.sqlite.specs.declared.types.Value.TheVariants.{Null, Int}
use Rattle.sqlite.specs.Term.{lit, col}
use Rattle.sqlite.specs.Schema.{Schema}
use Rattle.sqlite.specs.Table.{Table}
use Rattle.sqlite.specs.Compile.{table_defined_by}
use Rattle.sqlite.specs.Change.{created, next_tree, KeepsRows}
use Rattle.sqlite.specs.Command.TheVariants.{CreateTable, Insert}
use Rattle.sqlite.specs.Source.TheVariants.{Values}
use Rattle.sqlite.specs.Does.{Tally, lacks_sequence}
use Rattle.sqlite.specs.Effect.{Database}
use Rattle.sqlite.specs.Store.{Ghosts}
use Rattle.sqlite.specs.Held.{Held, state}
use Rattle.sqlite.specs.State.{Writes}
use Rattle.sqlite.specs.Listing.{understood}
use Rattle.sqlite_tied.specs.Compute.{everything}
use Rattle.sqlite.proofs.Callers.{IsPlain, command_of, statement_of, runs_as}
use Rattle.vk_keeper_sql.specs.Statements.{make_about, make_auctions, make_seals, make_terms, first_number}
use Rattle.vk_keeper_sql.specs.Transactions.{Ran}
use Rattle.vk_keeper_sql.specs.Opening.{MakesTables}
use Rattle.vk_store_laws.specs.Tables.{about, auctions, seals, terms, no_schema, store_schema}
use Rattle.vk_store_laws.specs.Rows.{IsTableOfRows}
use Rattle.vk_store_laws.specs.Holding.{IsStore}
use Rattle.vk_store_laws.proofs.Under.{unlike}
use Rattle.vk_store_laws.proofs.Tables.{went, same_value, cast_null, cast_int, inserts}

abbrev one_schema : Schema
one_schema = created no_schema about

abbrev two_schema : Schema
two_schema = created one_schema auctions

abbrev three_schema : Schema
three_schema = created two_schema seals

all_made : created three_schema terms ≡ store_schema
unfolding digits
all_made = refl

-- what a text makes of a schema
pub record Defines (schema : Schema) (sql : List ℕ) (table : Table) : Type 0 where
  pub command : command_of (understood schema sql) ≡ CreateTable
  pub text : statement_of sql (understood schema sql) ≡ sql
  pub plain : IsPlain (understood schema sql)
  pub table_is : table_defined_by sql ≡ Ok table
  pub uncounted : lacks_sequence (created schema table) ≡ false

-- the terms came last: a store that was made before has the three tables above
texts_are : Defines no_schema make_about about × Defines one_schema make_auctions auctions
    × Defines two_schema make_seals seals × Defines three_schema make_terms terms
unfolding understood everything make_about make_auctions make_seals make_terms
texts_are = (
  record { command = refl; text = refl; plain = (refl, refl); table_is = refl; uncounted = refl },
  record { command = refl; text = refl; plain = (refl, refl); table_is = refl; uncounted = refl },
  record { command = refl; text = refl; plain = (refl, refl); table_is = refl; uncounted = refl },
  record { command = refl; text = refl; plain = (refl, refl); table_is = refl; uncounted = refl },
)

number_is : command_of (understood store_schema first_number)
    ≡ Insert 0 (Values (lit Null ∷ col 0 0 ∷ []) 2)
unfolding understood everything first_number
number_is = refl

number_plain : IsPlain (understood store_schema first_number)
unfolding understood everything first_number
number_plain = (refl, refl)

-- how many tables a schema has
pub count_is : (schema it : Schema) (count : ℕ) → schema ≡ it → length schema.tables ≡ count
    → length it.tables ≡ count
count_is schema it count is counted = sym (ap (λ (s : Schema). length s.tables) is) ∙ counted

module _ {S : Type 0} (g : Ghosts S) where
  pub makes : (old new : Held S) (schema : Schema) (sql : List ℕ) (table : Table)
      → (state g old).now.schema ≡ schema → Defines schema sql table → Ran g sql [] old new
      → ((state g new).now.schema ≡ created schema table)
      × ((state g new).now.trees (next_tree schema) ≡ [])
      × KeepsRows schema.tables (state g old).now.trees (state g new).now.trees
  unfolding Ran
  makes old new schema sql table has is ran =
      let w = subst (λ t. Writes (state g old) (state g new) None CreateTable t [] ran.0) is.text
      (runs_as sql [] (state g old) (state g new) schema has CreateTable is.command is.plain
      ran.0 ran.1.0) in
      let all = went w.changed in
      let first = went all.1 in
      let made = first.1 in
      let same : made.table ≡ table = same_value (sym made.defined ∙ is.table_is) in
      let after : first.0.schema ≡ created schema table =
      made.is ∙ (ap (λ s. created s made.table) has ∙ ap (created schema) same) in
      let plain : lacks_sequence first.0.schema ≡ false = ap lacks_sequence after ∙ is.uncounted in
      let now : (state g new).now ≡ first.0 = ap (λ (p : Tally × Database). p.1) (same_value all.2)
      ∙ same_value (rw plain at first.2) in (
        ap (λ (d : Database). d.schema) now ∙ after,
        ap (λ (d : Database). d.trees (next_tree schema)) now
            ∙ subst (λ s. first.0.trees (next_tree s) ≡ []) has made.empty,
        subst (λ (d : Database). KeepsRows schema.tables (state g old).now.trees d.trees) (sym now)
            (subst (λ s. KeepsRows s.tables (state g old).now.trees first.0.trees) has made.others),
      )

  -- a new store is one, and has no row of an auction
  pub made_is_store : (old new : Held S) → (state g old).now.schema ≡ no_schema
      → MakesTables g old new
      → IsStore (state g new).now × ((state g new).now.trees 1 ≡ [])
      × ((state g new).now.trees 3 ≡ []) × ((state g new).now.trees 6 ≡ [])
  unfolding Ran
  made_is_store old new has
      (made, about_ran, (later, auctions_ran, (third, seals_ran, (fourth, terms_ran, end)))) =
      let one = makes old made no_schema make_about about has texts_are.0 about_ran in
      let two = makes made later one_schema make_auctions auctions one.0 texts_are.1 auctions_ran in
      let three = makes later third two_schema make_seals seals two.0 texts_are.2 seals_ran in
      let four = makes third fourth three_schema make_terms terms three.0 texts_are.3 terms_ran in
      let whole = four.0 ∙ all_made in
      let params = Int (pos 2) ∷ [] in
      let number = subst (λ h. Ran g first_number params fourth h) (sym end.2) end.1 in
      let w = runs_as first_number params (state g fourth) (state g new) store_schema whole _
      number_is number_plain number.0 number.1.0 in
      let text = statement_of first_number (understood store_schema first_number) in
      let done = inserts store_schema 0 about refl (λ keys db edit. refl) (state g fourth)
      (state g new) whole text params number.0
      (lit Null ∷ col 0 0 ∷ []) 2 refl refl refl (rw (cast_null, cast_int (pos 2)) refl) w in
      let heads : (state g new).now.trees 1 ≡ [] = done.0.tables.1.0 (unlike 1 0 refl)
      ∙ (four.2.1.0 ∙ (three.2.1.0 ∙ two.1)) in
      let rows : (state g new).now.trees 3 ≡ [] = done.0.tables.1.1.0 (unlike 3 0 refl)
      ∙ (four.2.1.1.0 ∙ three.1) in
      let terms : (state g new).now.trees 6 ≡ [] =
      done.0.tables.1.1.1.0 (unlike 6 0 refl) ∙ four.1 in (
        record {
          schema = done.0.schema;
          auctions = subst IsTableOfRows (sym heads) (tt, tt);
          terms = subst IsTableOfRows (sym terms) (tt, tt);
          seals =
              subst IsTableOfRows (sym rows) (tt, tt);
        },
        heads,
        rows,
        terms,
      )
