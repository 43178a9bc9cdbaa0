-- Why an auction isn't kept, over a disk that returned what was written. What a connection refuses
-- is said by its own relations, of the store before and behind the refused step.
use Rattle.std.specs.Prelude.{◌≡◌, ℕ, ◌≤◌, pos, true, List, [], ◌∷◌, length, map, take, drop, IsTrue}
use Rattle.sqlite.specs.Store.{Ghosts}
use Rattle.sqlite.specs.Order.{Row}
use Rattle.sqlite.specs.Held.{Held, state}
use Rattle.sqlite.specs.State.{IsRolledBack}
use Rattle.sqlite.specs.Steps.{FailsToCommit}
use Rattle.sqlite.specs.declared.error.Error.{Error}
use Rattle.sqlite.specs.declared.types.Value.TheVariants.{Int, Blob}
use Rattle.vk_io.specs.declared.errors.OutsideErr.{OutsideErr}
use Rattle.vk_io.specs.declared.errors.OutsideErr.TheVariants.{Failed, NoMemory}
use Rattle.vk_keeper.specs.declared.auction.Auction.{Auction}
use Rattle.vk_rows.specs.declared.texts.SealTexts.{SealTexts}
use Rattle.vk_rows.specs.Columns.{ShowSeals, auction_row, terms_row, seal_texts}
use Rattle.vk_rows.specs.Refusals.{statement_refusal}
use Rattle.vk_keeper_sql.specs.Statements.{seals_query, keep_auction, keep_terms, drop_seals}
use Rattle.vk_keeper_sql.specs.Transactions.{Answers, Ran, RefusesQuery, RefusesRun, StopsAmong}
use Rattle.vk_keeper_sql.specs.Writing.{WritesAuction, adding}

module _ {S : Type 0} (g : Ghosts S) where
  -- the rows of an id's seals weren't written: the query for those that stand was refused, or the
  -- statement that drops the others, or one that writes a seal
  pub data StopsSeals (id : List ℕ) (seals : List SealTexts) (old new : Held S)
      (told : OutsideErr) : Type 0 where
    query_refused : RefusesQuery g seals_query (Blob id ∷ []) old new told
        → StopsSeals id seals old new told
    clear_refused : (asked : Held S) (held : List Row) (standing : ℕ)
        → Answers g seals_query (Blob id ∷ []) old asked held → standing ≤ length seals
        → ShowSeals 0 (take standing held) (take standing seals)
        → RefusesRun g drop_seals (Blob id ∷ Int (pos standing) ∷ []) asked new told
        → StopsSeals id seals old new told
    add_refused : (asked cleared : Held S) (held : List Row) (standing : ℕ)
        → Answers g seals_query (Blob id ∷ []) old asked held → standing ≤ length seals
        → ShowSeals 0 (take standing held) (take standing seals)
        → Ran g drop_seals (Blob id ∷ Int (pos standing) ∷ []) asked cleared
        → StopsAmong g (adding id standing (drop standing seals)) cleared new told
        → StopsSeals id seals old new told

  -- an auction wasn't written: the statement for its row was refused, or that for its terms, or one
  -- for its seals
  pub data StopsWriting (auction : Auction) (old new : Held S) (told : OutsideErr) : Type 0 where
    row_refused : RefusesRun g keep_auction (auction_row auction) old new told
        → StopsWriting auction old new told
    terms_refused : (one : Held S) → Ran g keep_auction (auction_row auction) old one
        → RefusesRun g keep_terms (terms_row auction) one new told
        → StopsWriting auction old new told
    seals_refused : (one two : Held S) → Ran g keep_auction (auction_row auction) old one
        → Ran g keep_terms (terms_row auction) one two
        → StopsSeals auction.id (map seal_texts auction.seals) two new told
        → StopsWriting auction old new told

  -- the connection was in a transaction, or there was no memory for the texts of the rows, and it is
  -- as it was; or the auction wasn't written, and the transaction was rolled back; or it was written,
  -- and the commit was refused
  pub data IsUnkeptFor (auction : Auction) (old new : Held S) (told : OutsideErr) : Type 0 where
    in_transaction : IsTrue old.in_transaction → new ≡ old → told ≡ Failed
        → IsUnkeptFor auction old new told
    no_memory : new ≡ old → told ≡ NoMemory → IsUnkeptFor auction old new told
    not_written : (last : Held S)
        → StopsWriting auction (record old { in_transaction = true }) last told
        → IsRolledBack (state g last) (state g new) → IsUnkeptFor auction old new told
    not_committed : (last : Held S) (error : Error)
        → WritesAuction g auction (record old { in_transaction = true }) last
        → FailsToCommit (state g last) (state g new) error → told ≡ statement_refusal error
        → IsUnkeptFor auction old new told
