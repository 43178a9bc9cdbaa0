-- Where nothing is kept, nothing is found, and that is a ledger.
use Rattle.std.proofs.Common.{◌≡◌, ℕ, List, Option, None, Some, IfSome, sym, ap, subst, ◌∙◌}
use Rattle.std.specs.FinMap.{get, empty, get-empty}
use Rattle.vk_keeper.specs.declared.auction.Auction.{Auction}
use Rattle.vk_keeper.specs.Ledgers.{Ledger, IsKeptUnder, IsLedger}

pub nothing_found : (ledger : Option Ledger) (id : List ℕ)
    → IfSome ledger (λ auctions. auctions ≡ empty)
    → IfSome ledger (λ auctions. None ≡ get auctions id)
nothing_found None id nothing = nothing
nothing_found (Some auctions) id nothing = rw nothing (sym (get-empty _ id))

pub nothing_kept : (ledger : Option Ledger) → IfSome ledger (λ auctions. auctions ≡ empty)
    → IfSome ledger IsLedger
nothing_kept None nothing = nothing
nothing_kept (Some auctions) nothing =
    λ id. let P : Option Auction → Type 0 = λ found. IfSome found (IsKeptUnder id) in
    subst P (sym (ap (λ kept. get kept id) nothing ∙ get-empty _ id)) tt
