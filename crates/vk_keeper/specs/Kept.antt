-- The auctions of a keeper in memory as they lie there, one after another.
use Rattle.std.specs.Prelude.{◌≢◌, ℕ, List, map, All, AllPairs}
use Rattle.std.specs.FinMap.{from_entries}
use Rattle.vk_keeper.specs.declared.auction.Auction.{Auction}
use Rattle.vk_keeper.specs.Auctions.{IsAuction}
use Rattle.vk_keeper.specs.Ledgers.{Ledger}

-- an auction under its id
abbrev pub entry_of : Auction → List ℕ × Auction
entry_of auction = (auction.id, auction)

-- the map that the auctions make
unfoldable pub ledger_in : List Auction → Ledger
ledger_in auctions = from_entries (map entry_of auctions)

-- the ids of the auctions
abbrev pub ids_of : List Auction → List (List ℕ)
ids_of auctions = map (λ auction. auction.id) auctions

-- auctions whose ids differ
pub record AreKept (auctions : List Auction) : Type 0 where
  pub each : All IsAuction auctions
  pub ids : AllPairs (λ earlier later. earlier ≢ later) (ids_of auctions)
