-- Which tables a store is to have, by their names, columns, types and keys.
use Rattle.std.specs.Prelude.{◌≡◌, ℕ, Bool, true, false, List, [], ◌∷◌, length, map, codes, None, Contains}
use Rattle.sqlite_schema.specs.declared.schema.Kind.{Kind}
use Rattle.sqlite_schema.specs.declared.schema.Kind.TheVariants as kind
use Rattle.sqlite_schema.specs.declared.schema.Column.{Column}
use Rattle.sqlite_schema.specs.declared.schema.Table.{Table}
use Rattle.sqlite_schema.specs.declared.schema.Schema.{Schema}
use Rattle.vk_keeper_sql.specs.declared.layout.Layout.{Layout}
use Rattle.vk_keeper_sql.specs.declared.layout.Layout.TheVariants.{Blank, First, Second, Other}
use Rattle.vk_keeper_sql.specs.declared.layout.TableName.{TableName}
use Rattle.vk_keeper_sql.specs.declared.layout.TableName.TheVariants.{About, Auction, Seal, Terms}

-- a column by its name and type, and whether it takes no NULL
pub record ColumnShape : Type 0 where
  pub name : List ℕ
  pub kind : Kind
  pub not_null : Bool
  pub is_strict : Bool

-- a table by its name and columns, and its keys by the places of their columns, counted from 1
pub record TableShape : Type 0 where
  pub name : List ℕ
  pub columns : List ColumnShape
  pub keys : List (List ℕ)

abbrev pub shape : List ℕ → Kind → Bool → Bool → ColumnShape
shape name kind not_null is_strict =
    record { name = name; kind = kind; not_null = not_null; is_strict = is_strict }

abbrev pub shape_of : Column → ColumnShape
shape_of column = shape column.name column.kind column.not_null column.is_strict

-- a column that takes no NULL, and one that does
abbrev pub always : List ℕ → Kind → ColumnShape
always name kind = shape name kind true false

abbrev pub maybe : List ℕ → Kind → ColumnShape
maybe name kind = shape name kind false false

-- a column of type BLOB takes any value
abbrev pub about_shape : TableShape
about_shape = record {
  name = codes "about";
  columns = always (codes "version") kind.Integer ∷ [];
  keys = [];
}

abbrev pub auction_shape : TableShape
auction_shape = record {
  name = codes "auction";
  columns = always (codes "id") kind.Any ∷ always (codes "width") kind.Integer
      ∷ always (codes "lanes") kind.Integer ∷ always (codes "phase") kind.Integer
      ∷ maybe (codes "seed") kind.Any ∷ maybe (codes "bits") kind.Text ∷ [];
  keys = (1 ∷ []) ∷ [];
}

abbrev pub seal_shape : TableShape
seal_shape = record {
  name = codes "seal";
  columns = always (codes "id") kind.Any ∷ always (codes "position") kind.Integer
      ∷ always (codes "seat") kind.Integer ∷ always (codes "seal") kind.Text
      ∷ always (codes "secret") kind.Text ∷ [];
  keys = (1 ∷ 2 ∷ []) ∷ (1 ∷ 3 ∷ []) ∷ [];
}

abbrev pub terms_shape : TableShape
terms_shape = record {
  name = codes "terms";
  columns = always (codes "id") kind.Any ∷ always (codes "version") kind.Integer
      ∷ always (codes "reserve") kind.Integer ∷ [];
  keys = (1 ∷ []) ∷ [];
}

-- a table of that name, with no rule but its columns and keys
pub record IsPlain (wanted : List ℕ) (table : Table) : Type 0 where
  pub name : table.name ≡ wanted
  pub rowid : table.key ≡ None
  pub checks : table.checks ≡ []
  pub references : table.references ≡ []

-- a table of that shape, with no other rule
pub record HasShape (shape : TableShape) (table : Table) : Type 0 where
  pub plain : IsPlain shape.name table
  pub columns : map shape_of table.columns ≡ shape.columns
  pub keys : table.uniques ≡ shape.keys

-- a keeper's table by its name
abbrev pub shape_named : TableName → TableShape
shape_named About = about_shape
shape_named Auction = auction_shape
shape_named Seal = seal_shape
shape_named Terms = terms_shape

abbrev pub Has : TableShape → List Table → Type 0
Has shape tables = (table : Table) × Contains tables table × HasShape shape table

-- the tables of the number 1
pub record AreFirst (tables : List Table) : Type 0 where
  pub about : Has about_shape tables
  pub auction : Has auction_shape tables
  pub seal : Has seal_shape tables

-- nothing is there that SQL reaches
abbrev pub IsBlank : Schema → Type 0
IsBlank schema = (schema.tables ≡ []) × (schema.views ≡ [])

-- no table, index or view is there but these; each key has an index
pub record IsFirst (schema : Schema) : Type 0 where
  pub first : AreFirst schema.tables
  pub tables : length schema.tables ≡ 3
  pub indexes : length schema.indexes ≡ 3
  pub views : schema.views ≡ []

-- those of the number 2, which has terms beside
pub record IsSecond (schema : Schema) : Type 0 where
  pub first : AreFirst schema.tables
  pub terms : Has terms_shape schema.tables
  pub tables : length schema.tables ≡ 4
  pub indexes : length schema.indexes ≡ 4
  pub views : schema.views ≡ []

-- it is none of these: each is refuted
pub record IsOther (schema : Schema) : Type 0 where
  pub blank : ¬ IsBlank schema
  pub first : ¬ IsFirst schema
  pub second : ¬ IsSecond schema

abbrev pub HasLayout : Layout → Schema → Type 0
HasLayout Blank schema = IsBlank schema
HasLayout First schema = IsFirst schema
HasLayout Second schema = IsSecond schema
HasLayout Other schema = IsOther schema
