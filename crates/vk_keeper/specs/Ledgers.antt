-- Auctions as a finite map, and what a keeper does to what it keeps.
use Rattle.std.specs.Prelude.{◌≡◌, ℕ, List, IfSome, Result, Ok, Err}
use Rattle.std.specs.Ordering.{nat_cmp}
use Rattle.std.specs.Cmp.Lexicographic.{slice_cmp}
use Rattle.std.specs.FinMap.{FinMap, get, insert}
use Rattle.vk_keeper.specs.declared.auction.Auction.{Auction}
use Rattle.vk_keeper.specs.Auctions.{IsAuction}

-- from ids, as their bytes, to auctions
abbrev pub Ledger : Type 0
Ledger = FinMap (slice_cmp nat_cmp) Auction

-- an auction that stands under its own id
pub record IsKeptUnder (id : List ℕ) (auction : Auction) : Type 0 where
  pub own : auction.id ≡ id
  pub right : IsAuction auction

-- what stands under an id is an auction of that id
abbrev pub IsLedger : Ledger → Type 0
IsLedger kept = (id : List ℕ) → IfSome (get kept id) (IsKeptUnder id)

-- `put` keeps the auction under its id, and all other ids stay; refused, nothing changed
abbrev pub Keeps : {E : Type 0} → Auction → Result Unit E → Ledger → Ledger → Type 0
Keeps auction (Ok done) old new = new ≡ insert old auction.id auction
Keeps auction (Err refusal) old new = new ≡ old
