-- The rows of one auction, and what is shown of them.
use Rattle.sqlite_rules.specs.Edit.{is_taken}
use Rattle.sqlite_schema.specs.declared.schema.Table.{Table}
use Rattle.sqlite_schema.specs.declared.schema.Schema.{Schema}
use Rattle.sqlite.specs.Effect.{Database}
use Rattle.std.specs.Prelude.{◌≡◌, ◌≢◌, false, ℤ, ℕ, Bool, IsTrue, List, [], ◌∷◌, filter}
use Rattle.std.specs.List.{AllByRecursion}
use Rattle.sqlite_trees.specs.Tree.{IsTable, rowid, put_row}
use Rattle.sqlite_trees.specs.View.{is_int}
use Rattle.std.specs.Ordering.{is_eq}
use Rattle.sqlite_value.specs.declared.value.Value.TheVariants.{Int, Blob}
use Rattle.sqlite_value.specs.Order.{Row, column, value_cmp}

-- the row is one of this id
abbrev pub has_id : List ℕ → Row → Bool
has_id id row = is_eq (value_cmp (column row 1) (Blob id))

abbrev pub under : List ℕ → List Row → List Row
under id = filter (has_id id)

-- the row of an auction without its rowid and its id
abbrev pub head_columns : Row → Row
head_columns row = column row 2 ∷ column row 3 ∷ column row 4 ∷ column row 5 ∷ column row 6 ∷ []

-- that of its terms
abbrev pub term_columns : Row → Row
term_columns row = column row 2 ∷ column row 3 ∷ []

-- that of a seal
abbrev pub seal_columns : Row → Row
seal_columns row = column row 2 ∷ column row 3 ∷ column row 4 ∷ column row 5 ∷ []

-- where each rowid is an integer, and none comes twice
abbrev pub IsTableOfRows : List Row → Type 0
IsTableOfRows rows = IsTable rows × AllByRecursion (λ r. IsTrue (is_int (rowid r))) rows

-- only this table was written
pub record OnlyTable (tree : ℕ) (it : Schema) (old new : Database) : Type 0 where
  pub schema : new.schema ≡ it
  pub tables : AllByRecursion (λ (table : Table). table.tree ≢ tree
      → new.trees table.tree ≡ old.trees table.tree) it.tables

-- these values were put as a row, under a rowid that was free
pub record PutsRow (values : Row) (old new : List Row) : Type 0 where
  pub number : ℤ
  pub rows : new ≡ put_row (Int number ∷ values) old
  pub free : is_taken old (Int number ∷ values) ≡ false
