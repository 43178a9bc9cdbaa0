-- What a keeper answers is what the rows of its store show.
use Rattle.std.specs.Prelude.{◌⊎◌, ℕ, true, List, [], ◌∷◌, Option, IfSome, IsTrue}
use Rattle.sqlite.specs.Store.{Ghosts}
use Rattle.sqlite.specs.Order.{Row}
use Rattle.sqlite.specs.Held.{Held}
use Rattle.sqlite.specs.declared.types.Value.TheVariants.{Blob}
use Rattle.vk_io.specs.declared.errors.OutsideErr.TheVariants.{Failed}
use Rattle.vk_keeper.specs.declared.auction.Auction.{Auction}
use Rattle.vk_keeper.specs.Ledgers.{IsKeptUnder}
use Rattle.vk_rows.specs.Columns.{ShowFound}
use Rattle.vk_keeper_sql.specs.Statements.{auction_query, terms_query, seals_query}
use Rattle.vk_keeper_sql.specs.Transactions.{Answers, RefusesQuery}

module _ {S : Type 0} (g : Ghosts S) (id : List ℕ) where
  -- the rows that stand under an id, in a transaction that has begun
  pub record ReadsFrom (begun : Held S) (heads terms rows : List Row) : Type 0 where
    pub one : Held S
    pub two : Held S
    pub last : Held S
    pub head : Answers g auction_query (Blob id ∷ []) begun one heads
    pub term : Answers g terms_query (Blob id ∷ []) one two terms
    pub seals : Answers g seals_query (Blob id ∷ []) two last rows

  -- the same, asked for in one transaction of their own
  abbrev pub Reads : Held S → List Row → List Row → List Row → Type 0
  Reads old heads terms rows = ReadsFrom (record old { in_transaction = true }) heads terms rows

  -- what was found under an id is what the rows of the store show
  pub record Finds (old : Held S) (found : Option Auction) : Type 0 where
    pub heads : List Row
    pub terms : List Row
    pub rows : List Row
    pub read : Reads old heads terms rows
    pub shown : ShowFound heads terms rows found

  -- one of the three queries was refused, behind those that were answered, and not for want of
  -- memory
  abbrev pub FailsToRead : Held S → Type 0
  FailsToRead begun = (one : Held S) × (RefusesQuery g auction_query (Blob id ∷ []) begun one Failed
      ⊎ ((heads : List Row) × Answers g auction_query (Blob id ∷ []) begun one heads
      × ((two : Held S) × (RefusesQuery g terms_query (Blob id ∷ []) one two Failed
      ⊎ ((terms : List Row) × Answers g terms_query (Blob id ∷ []) one two terms
      × ((last : Held S) × RefusesQuery g seals_query (Blob id ∷ []) two last Failed))))))

  -- the rows of the store show neither an auction of that id nor that there is none
  pub record ShowsNeither (old : Held S) : Type 0 where
    pub heads : List Row
    pub terms : List Row
    pub rows : List Row
    pub read : Reads old heads terms rows
    pub shown : (found : Option Auction) → IfSome found (IsKeptUnder id)
        → ¬ ShowFound heads terms rows found

  -- why nothing is answered: a transaction was open, a query was refused, or the rows of the store
  -- show neither an auction of that id nor that there is none
  abbrev pub FindsNothing : Held S → Type 0
  FindsNothing old = IsTrue old.in_transaction
      ⊎ (FailsToRead (record old { in_transaction = true }) ⊎ ShowsNeither old)
