-- Auctions from before they had a version and a reserve, and what becomes of them.
use Rattle.std.specs.Prelude.{ℕ, List, map}
use Rattle.std.specs.Ordering.{nat_cmp}
use Rattle.std.specs.Cmp.Lexicographic.{slice_cmp}
use Rattle.std.specs.FinMap.{FinMap, entries, from_entries}
use Rattle.vk_keeper.specs.declared.auction.Auction.{Auction}
use Rattle.vk_keeper.specs.declared.auction.FirstAuction.{FirstAuction}
use Rattle.vk_keeper.specs.Auctions.{IsHeld}
use Rattle.vk_keeper.specs.Ledgers.{Ledger}

-- all that such an auction is
abbrev pub IsFirstAuction : FirstAuction → Type 0
IsFirstAuction first = IsHeld first.id first.width first.lanes first.phase first.seals

-- it goes on as an auction of version 1, which names no reserve
abbrev pub lifted : FirstAuction → Auction
lifted first = record {
  id = first.id;
  version = 1;
  width = first.width;
  lanes = first.lanes;
  reserve = 0;
  phase = first.phase;
  seals = first.seals;
}

-- from ids, as their bytes, to such auctions
abbrev pub FirstLedger : Type 0
FirstLedger = FinMap (slice_cmp nat_cmp) FirstAuction

-- the one that such auctions make, each under its id
abbrev pub first_entry_of : FirstAuction → List ℕ × FirstAuction
first_entry_of first = (first.id, first)

abbrev pub first_ledger_in : List FirstAuction → FirstLedger
first_ledger_in firsts = from_entries (map first_entry_of firsts)

-- the ledger that has each of them lifted
abbrev pub lifted_entry : List ℕ × FirstAuction → List ℕ × Auction
lifted_entry entry = (entry.0, lifted entry.1)

unfoldable pub lifted_ledger : FirstLedger → Ledger
lifted_ledger firsts = from_entries (map lifted_entry (entries firsts))
