-- What a keeper told of an id is what is kept under it.
use Rattle.std.proofs.Common.{◌≡◌, ◌∙◌, List, ℕ, Option, None, Some, IfSome, IsSome, OnOk, Result, Ok, Err, subst, sym}
use Rattle.std.specs.FinMap.{get}
use Rattle.vk_keeper.specs.declared.auction.Auction.{Auction}
use Rattle.vk_keeper.specs.Ledgers.{Ledger}

-- that there is none
pub none_there : (ledger : Option Ledger) (found : Option Auction) (id : List ℕ)
    → IfSome ledger (λ auctions. found ≡ get auctions id) → found ≡ None
    → IfSome ledger (λ auctions. get auctions id ≡ None)
none_there None found id told none = told
none_there (Some auctions) found id told none = sym told ∙ none

-- that there is one
pub some_there : (ledger : Option Ledger) (found : Option Auction) (id : List ℕ)
    → IfSome ledger (λ auctions. found ≡ get auctions id) → IsSome found
    → IfSome ledger (λ auctions. IsSome (get auctions id))
some_there None found id told some = told
some_there (Some auctions) found id told some = subst IsSome told some

-- what holds whatever is answered
pub done_with : {T E : Type 0} (P : Type 0) (result : Result T E) → P → OnOk result P
done_with P (Ok value) holds = holds
done_with P (Err refusal) holds = tt
