-- The ledger that a store told before auctions had terms.
use Rattle.std.specs.Prelude.{◌≡◌, ℕ, List, [], ◌∷◌, map, IsPermutation, Option, IfSome, MatchOption}
use Rattle.std.specs.FinMap.{get}
use Rattle.sqlite.specs.Tree.{Trees}
use Rattle.sqlite.specs.Effect.{Database}
use Rattle.vk_commit.specs.Values.{AreBytes}
use Rattle.vk_keeper.specs.declared.auction.FirstAuction.{FirstAuction}
use Rattle.vk_keeper.specs.First.{IsFirstAuction, FirstLedger, lifted}
use Rattle.vk_rows.specs.Columns.{seal_texts}
use Rattle.vk_store_laws.specs.Tables.{first_store_schema}
use Rattle.vk_store_laws.specs.Rows.{IsTableOfRows, under, head_columns, seal_columns}
use Rattle.vk_store_laws.specs.Holding.{head_row, seal_rows}

-- the tables are those that a store had then, and each has a rowid once
pub record IsFirstStore (db : Database) : Type 0 where
  pub schema : db.schema ≡ first_store_schema
  pub auctions : IsTableOfRows (db.trees 1)
  pub seals : IsTableOfRows (db.trees 3)

-- an auction stands in them: the rows of its id are its own and, in some order, those of its seals
pub record StandsFirst (trees : Trees) (first : FirstAuction) : Type 0 where
  pub head : map head_columns (under first.id (trees 1)) ≡ head_row (lifted first) ∷ []
  pub seals : IsPermutation (map seal_columns (under first.id (trees 3)))
      (seal_rows 0 (map seal_texts first.seals))

-- what they hold under an id
abbrev pub HoldsFirst : Trees → List ℕ → Option FirstAuction → Type 0
HoldsFirst trees id found =
    MatchOption found ((under id (trees 1) ≡ []) × (under id (trees 3) ≡ []))
    (λ first. (first.id ≡ id) × StandsFirst trees first)

-- an auction of then that stands under its own id
pub record IsFirstUnder (id : List ℕ) (first : FirstAuction) : Type 0 where
  pub own : first.id ≡ id
  pub right : IsFirstAuction first

-- under each id they hold what the ledger has there
pub record TellsFirst (trees : Trees) (firsts : FirstLedger) : Type 0 where
  pub right : (id : List ℕ) → IfSome (get firsts id) (IsFirstUnder id)
  pub held : (id : List ℕ) → AreBytes 16 id → HoldsFirst trees id (get firsts id)
