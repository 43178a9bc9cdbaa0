use Rattle.std.proofs.Common.{◌≡◌, ◌≢◌, ℕ, ◌<◌, get_or, drop}
use Rattle.std.specs.FinMap as finite
use Rattle.vk_keeper.specs.declared.auction.Auction.{Auction}
use Rattle.vk_keeper.specs.Kept.{ledger_in}
use Rattle.vk_keeper.proofs.kept.place_of.Given as goal

-- the auctions so far have other ids
abbrev pub invariant-loop-i : goal.invariant-loop-i
invariant-loop-i l =
    record {
      rest : finite.get (ledger_in l.auctions) l.id
          ≡ finite.get (ledger_in (drop l.i l.auctions)) l.id;
      before : (k : ℕ) (d : Auction) → k < l.i → (get_or l.auctions k d).id ≢ l.id;
    }
