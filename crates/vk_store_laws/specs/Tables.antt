-- The tables of a store: what its four CREATE TABLE define, in their order.
use Rattle.sqlite.specs.declared.types.Value.TheVariants.{Null}
use Rattle.sqlite_value.specs.declared.keys.Collation.TheVariants.{Binary}
use Rattle.sqlite_value.specs.Keys.{plain}
use Rattle.std.specs.Prelude.{Bool, true, false, [], ◌∷◌, ◌++◌, None, codes, List, ℕ}
use Rattle.sqlite_schema.specs.declared.schema.Column.{Column}
use Rattle.sqlite_schema.specs.declared.schema.Index.{Index}
use Rattle.sqlite.specs.Table.{Table}
use Rattle.sqlite.specs.Schema.{Schema}
use Rattle.sqlite_schema.specs.declared.schema.Kind.{Kind}
use Rattle.sqlite.specs.Kind.TheVariants.{Integer, Text, Any}

-- a column that takes values of other types too, and NULL or not
abbrev pub column_of : Bool → List ℕ → Kind → Column
column_of not_null name kind = record {
  name = name;
  kind = kind;
  is_strict = false;
  not_null = not_null;
  default = Null;
  collation = Binary;
}

abbrev pub needed : List ℕ → Kind → Column
needed = column_of true

abbrev pub optional : List ℕ → Kind → Column
optional = column_of false

-- ---- the tables, each but for its tree

-- a table without columns and keys, and with no rule
abbrev pub bare : Table
bare = record {
  name = [];
  tree = 0;
  columns = [];
  key = None;
  primary = [];
  uniques = [];
  orders = [];
  checks = [];
  references = [];
  computed = [];
  stamps = record { places = []; terms = []; formats = [] };
  is_counted = false;
}

abbrev pub about : Table
about = record bare { name = codes "about"; columns = needed (codes "version") Integer ∷ [] }

abbrev pub auctions : Table
auctions = record bare {
  name = codes "auction";
  columns = needed (codes "id") Any ∷ needed (codes "width") Integer
      ∷ needed (codes "lanes") Integer ∷ needed (codes "phase") Integer
      ∷ optional (codes "seed") Any ∷ optional (codes "bits") Text ∷ [];
  primary = 1 ∷ [];
  uniques = (1 ∷ []) ∷ [];
  orders = plain ∷ [];
}

abbrev pub seals : Table
seals = record bare {
  name = codes "seal";
  columns = needed (codes "id") Any ∷ needed (codes "position") Integer
      ∷ needed (codes "seat") Integer ∷ needed (codes "seal") Text ∷ needed (codes "secret") Text
      ∷ [];
  primary = 1 ∷ 2 ∷ [];
  uniques = (1 ∷ 2 ∷ []) ∷ (1 ∷ 3 ∷ []) ∷ [];
  orders = plain ∷ plain ∷ [];
}

abbrev pub terms : Table
terms = record bare {
  name = codes "terms";
  columns = needed (codes "id") Any ∷ needed (codes "version") Integer
      ∷ needed (codes "reserve") Integer ∷ [];
  primary = 1 ∷ [];
  uniques = (1 ∷ []) ∷ [];
  orders = plain ∷ [];
}

-- a table at its tree
abbrev pub placed : Table → ℕ → Table
placed table tree = record table { tree = tree }

-- the index of the name that SQLite gives it over the key of a table
abbrev pub index_of : List ℕ → ℕ → ℕ → List ℕ → Index
index_of name tree table key =
    record {
      name = name;
      tree = tree;
      table = table;
      columns = key;
      order = plain;
      is_unique = true;
    }

abbrev pub seal_indexes : List Index
seal_indexes = index_of (codes "sqlite_autoindex_seal_1") 4 3 (1 ∷ 2 ∷ [])
    ∷ index_of (codes "sqlite_autoindex_seal_2") 5 3 (1 ∷ 3 ∷ []) ∷ []

abbrev pub terms_index : Index
terms_index = index_of (codes "sqlite_autoindex_terms_1") 7 6 (1 ∷ [])

-- what the four statements that make the tables leave of an empty store
abbrev pub store_schema : Schema
store_schema = record {
  tables = about ∷ placed auctions 1 ∷ placed seals 3 ∷ placed terms 6 ∷ [];
  indexes = index_of (codes "sqlite_autoindex_auction_1") 2 1 (1 ∷ [])
      ∷ (seal_indexes ++ terms_index ∷ []);
  views = [];
}

-- what the first three leave, which made all tables before auctions had terms
abbrev pub first_store_schema : Schema
first_store_schema = record {
  tables = about ∷ placed auctions 1 ∷ placed seals 3 ∷ [];
  indexes = index_of (codes "sqlite_autoindex_auction_1") 2 1 (1 ∷ []) ∷ seal_indexes;
  views = [];
}

-- nothing was made yet
abbrev pub no_schema : Schema
no_schema = record { tables = []; indexes = []; views = [] }
