-- What is run on a store to keep an auction: row by row, the auction.
use Rattle.std.specs.Prelude.{◌≡◌, ℕ, ◌+◌, ◌≤◌, pos, true, List, [], ◌∷◌, length, map, take, drop}
use Rattle.sqlite.specs.Store.{Ghosts}
use Rattle.sqlite.specs.Effect.{Database}
use Rattle.sqlite.specs.Order.{Row}
use Rattle.sqlite.specs.Held.{Held, state}
use Rattle.sqlite.specs.declared.types.Value.TheVariants.{Int, Blob}
use Rattle.vk_keeper.specs.declared.auction.Auction.{Auction}
use Rattle.vk_rows.specs.declared.texts.SealTexts.{SealTexts}
use Rattle.vk_rows.specs.Columns.{ShowSeals, auction_row, terms_row, seal_row, seal_texts}
use Rattle.vk_keeper_sql.specs.Statements.{seals_query, keep_auction, keep_terms, drop_seals, keep_seal}
use Rattle.vk_keeper_sql.specs.Transactions.{Answers, Ran, RunsAll, Step}

-- the statements that write the rows of these seals, one each, at the positions behind so many
abbrev pub adding : List ℕ → ℕ → List SealTexts → List Step
adding id before [] = []
adding id before (seal ∷ seals) =
    (keep_seal, seal_row id (before + 1) seal) ∷ adding id (before + 1) seals

module _ {S : Type 0} (g : Ghosts S) where
  -- the rows of these seals were written, one each, at the positions behind so many
  abbrev pub AddsSeals : List ℕ → ℕ → List SealTexts → Held S → Held S → Type 0
  AddsSeals id before seals = RunsAll g (adding id before seals)

  -- of the rows of an id so many from the first position on are as they are to be; all others were
  -- dropped, and the rows of the seals behind were written
  pub record WritesSeals (id : List ℕ) (seals : List SealTexts) (old new : Held S) : Type 0 where
    pub asked : Held S
    pub cleared : Held S
    pub held : List Row
    pub standing : ℕ
    pub query : Answers g seals_query (Blob id ∷ []) old asked held
    pub within : standing ≤ length seals
    pub stand : ShowSeals 0 (take standing held) (take standing seals)
    pub clear : Ran g drop_seals (Blob id ∷ Int (pos standing) ∷ []) asked cleared
    pub add : AddsSeals id standing (drop standing seals) cleared new

  -- the row of an auction was written, that of its terms, and those of its seals
  pub record WritesAuction (auction : Auction) (old new : Held S) : Type 0 where
    pub one : Held S
    pub two : Held S
    pub row : Ran g keep_auction (auction_row auction) old one
    pub terms : Ran g keep_terms (terms_row auction) one two
    pub seals : WritesSeals auction.id (map seal_texts auction.seals) two new

  -- what was made of a store by writing an auction in one transaction, and nothing else
  abbrev pub Keeps : Auction → Held S → Database → Type 0
  Keeps auction old whole =
      (last : Held S) × WritesAuction auction (record old { in_transaction = true }) last
      × (whole ≡ (state g last).now)
