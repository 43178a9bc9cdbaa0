-- What the rows of a store mean.
use Rattle.std.specs.Prelude.{◌≡◌, ◌≢◌, ℕ, ◌+◌, pos, List, [], ◌∷◌, map, IsPermutation, Option, MatchOption}
use Rattle.sqlite.specs.Order.{Row}
use Rattle.sqlite.specs.Tree.{Trees}
use Rattle.sqlite.specs.Effect.{Database}
use Rattle.sqlite.specs.declared.types.Value.TheVariants.{Int, Text, Blob}
use Rattle.sqlite.specs.Values.{or_null}
use Rattle.vk_keeper.specs.declared.auction.Auction.{Auction}
use Rattle.vk_keeper.specs.Auctions.{seed_of}
use Rattle.vk_rows.specs.declared.texts.SealTexts.{SealTexts}
use Rattle.vk_rows.specs.Columns.{phase_number, bits_in, seal_texts}
use Rattle.vk_store_laws.specs.Tables.{store_schema}
use Rattle.vk_store_laws.specs.Rows.{IsTableOfRows, under, head_columns, term_columns, seal_columns}

-- the columns of an auction's row behind the id
abbrev pub head_row : Auction → Row
head_row auction =
    Int (pos auction.width) ∷ Int (pos auction.lanes) ∷ Int (pos (phase_number auction.phase))
    ∷ or_null Blob (seed_of auction.phase) ∷ or_null Text (bits_in auction.phase) ∷ []

-- those of its terms' row
abbrev pub term_row : Auction → Row
term_row auction = Int (pos auction.version) ∷ Int (pos auction.reserve) ∷ []

-- those of the row of a seal at a position
abbrev pub columns_of : ℕ → SealTexts → Row
columns_of position seal = Int (pos position) ∷ Int (pos seal.seat) ∷ Text seal.seal
    ∷ Text seal.secret ∷ []

-- those of the rows of these seals, one each, at the positions behind so many
abbrev pub seal_rows : ℕ → List SealTexts → List Row
seal_rows before [] = []
seal_rows before (seal ∷ seals) = columns_of (before + 1) seal ∷ seal_rows (before + 1) seals

-- an auction stands in the tables: the rows of its id are its own, that of its terms and, in some
-- order, those of its seals
pub record Stands (trees : Trees) (auction : Auction) : Type 0 where
  pub head : map head_columns (under auction.id (trees 1)) ≡ head_row auction ∷ []
  pub terms : map term_columns (under auction.id (trees 6)) ≡ term_row auction ∷ []
  pub seals : IsPermutation (map seal_columns (under auction.id (trees 3)))
      (seal_rows 0 (map seal_texts auction.seals))

-- no row is of this id
pub record IsAbsent (trees : Trees) (id : List ℕ) : Type 0 where
  pub head : under id (trees 1) ≡ []
  pub terms : under id (trees 6) ≡ []
  pub seals : under id (trees 3) ≡ []

-- what the tables hold under an id
abbrev pub Holds : Trees → List ℕ → Option Auction → Type 0
Holds trees id found = MatchOption found (IsAbsent trees id)
    (λ auction. (auction.id ≡ id) × Stands trees auction)

-- the tables are those of a store, and each has a rowid once
pub record IsStore (db : Database) : Type 0 where
  pub schema : db.schema ≡ store_schema
  pub auctions : IsTableOfRows (db.trees 1)
  pub terms : IsTableOfRows (db.trees 6)
  pub seals : IsTableOfRows (db.trees 3)

-- the rows of every other id are the same
pub record KeepsOthers (id : List ℕ) (old new : Trees) : Type 0 where
  pub auctions : (other : List ℕ) → other ≢ id → under other (new 1) ≡ under other (old 1)
  pub terms : (other : List ℕ) → other ≢ id → under other (new 6) ≡ under other (old 6)
  pub seals : (other : List ℕ) → other ≢ id → under other (new 3) ≡ under other (old 3)

-- a statement on the rows of one id
pub record IsStoreStep (id : List ℕ) (old new : Database) : Type 0 where
  pub store : IsStore new
  pub others : KeepsOthers id old.trees new.trees
