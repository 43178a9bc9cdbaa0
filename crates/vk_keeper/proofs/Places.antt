-- The auctions of a keeper in memory as they lie there: they are a ledger, and stay so.
use Rattle.std.proofs.Common.{◌≡◌, ◌≢◌, ℕ, zero, suc, Bool, true, false, cond, List, [], ◌∷◌, ◌++◌, get_or, set, Option, Some, IfSome, refl, sym, ap, subst}
use Rattle.std.specs.List.{All, AllPairs}
use Rattle.std.specs.Str.{bytes_eq}
use Rattle.std.specs.FinMap.{get, insert, get-empty}
use Rattle.std.proofs.lemmas.Slice.Eq.{bytes_eq-Decides}
use Rattle.std.proofs.lemmas.List.{map-append}
use Rattle.std.proofs.lemmas.List.Elements.{All-head, All-tail, All-push, All-set, All-map}
use Rattle.std.proofs.lemmas.List.Quantifiers.{all_pairs_push}
use Rattle.vk_keeper.specs.declared.auction.Auction.{Auction}
use Rattle.vk_keeper.specs.Auctions.{IsAuction}
use Rattle.vk_keeper.specs.Ledgers.{Ledger, IsLedger, IsKeptUnder}
use Rattle.vk_keeper.specs.Kept.{AreKept, ledger_in, ids_of}
use Rattle.vk_io.proofs.Finite.{get_inserted}

-- what an id has after a change stands under its own id, where that was so before
under_its_id : (id : List ℕ) (auction : Auction) (found : Option Auction) (same : Bool)
    → bytes_eq id auction.id ≡ same → IsAuction auction → IfSome found (IsKeptUnder id)
    → IfSome (cond same (Some auction) found) (IsKeptUnder id)
under_its_id id auction found true test right others =
    record { own = sym ((bytes_eq-Decides id auction.id).0 test); right = right }
under_its_id id auction found false test right others = others

-- a ledger stays one with an auction under its id
pub ledger_with : (ledger : Ledger) (auction : Auction) → IsLedger ledger → IsAuction auction
    → IsLedger (insert ledger auction.id auction)
ledger_with ledger auction kept right id =
    subst (λ found. IfSome found (IsKeptUnder id)) (sym (get_inserted ledger auction.id auction id))
    (under_its_id id auction (get ledger id) _ refl right (kept id))

-- auctions are a ledger
pub ledger_of : (auctions : List Auction) → All IsAuction auctions → IsLedger (ledger_in auctions)
unfolding ledger_in
ledger_of [] each id = subst (λ found. IfSome found (IsKeptUnder id)) (sym (get-empty _ id)) tt
ledger_of (auction ∷ rest) each id =
    ledger_with (ledger_in rest) auction (ledger_of rest (All-tail IsAuction auction rest each))
    (All-head IsAuction auction rest each) id

-- an auction in place of one of its id leaves the ids
ids-set : (auctions : List Auction) (i : ℕ) (auction : Auction)
    → ((d : Auction) → (get_or auctions i d).id ≡ auction.id)
    → ids_of (set auctions i auction) ≡ ids_of auctions
ids-set [] i auction own = refl
ids-set (a ∷ rest) zero auction own = ap (λ id. id ∷ ids_of rest) (sym (own a))
ids-set (a ∷ rest) (suc i) auction own = ap (λ ids. a.id ∷ ids) (ids-set rest i auction own)

pub kept_set : (auctions : List Auction) (i : ℕ) (auction : Auction) → AreKept auctions
    → IsAuction auction → ((d : Auction) → (get_or auctions i d).id ≡ auction.id)
    → AreKept (set auctions i auction)
kept_set auctions i auction kept right own = record {
  each = All-set IsAuction auctions i auction right kept.each;
  ids = subst (AllPairs (λ earlier later. earlier ≢ later)) (sym (ids-set auctions i auction own))
      kept.ids;
}

pub kept_push : (auctions : List Auction) (auction : Auction) → AreKept auctions → IsAuction auction
    → All (λ other. other.id ≢ auction.id) auctions → AreKept (auctions ++ auction ∷ [])
kept_push auctions auction kept right others = record {
  each = All-push IsAuction auctions auction kept.each right;
  ids = subst (AllPairs (λ earlier later. earlier ≢ later))
      (sym (map-append (λ other. other.id) auctions (auction ∷ [])))
      (all_pairs_push (λ earlier later. earlier ≢ later) (ids_of auctions) auction.id kept.ids
      (All-map (λ id. id ≢ auction.id) (λ other. other.id) auctions others));
}
