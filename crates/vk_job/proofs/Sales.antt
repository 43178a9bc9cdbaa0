-- The sale as a function is the one sale by maxima.
use Rattle.std.proofs.Common.{◌≡◌, ℕ, ◌<◌, ◌≤◌, List, length, if◌then◌else◌, max, refl, sym, ap, ◌∙◌, subst, arith, inl, inr}
use Rattle.std.proofs.lemmas.Bool.{cases_lt, le-ltb, lt-ltb}
use Rattle.vk_vickrey.specs.declared.sales.Sale.{Sale}
use Rattle.vk_vickrey.specs.declared.sales.Sale.TheVariants.{Sold, Unsold}
use Rattle.vk_vickrey.specs.Outcomes.{bid_at}
use Rattle.vk_vickrey.specs.Sales.{IsSale}
use Rattle.vk_vickrey.specs.SaleLaws.{sale_is_one, sold_at_greater, unsold_below}
use Rattle.vk_job.specs.Outcome.{greatest, outcome_of, sale_of}
use Rattle.vk_job.proofs.Outcomes.{outcome_bids_most, outcome_is_vickrey}

unsold_where : (bids : List ℕ) (reserve : ℕ) → greatest bids < reserve
    → sale_of bids reserve ≡ Unsold
unfolding sale_of
unsold_where bids reserve below =
    ap (λ b. if b then Unsold else Sold (outcome_of bids).position
    (max (outcome_of bids).price reserve)) (lt-ltb (greatest bids) reserve below)

sold_where : (bids : List ℕ) (reserve : ℕ) → reserve ≤ greatest bids
    → sale_of bids reserve ≡ Sold (outcome_of bids).position (max (outcome_of bids).price reserve)
unfolding sale_of
sold_where bids reserve meets =
    ap (λ b. if b then Unsold else Sold (outcome_of bids).position
    (max (outcome_of bids).price reserve)) (le-ltb (greatest bids) reserve meets)

pub sale_is : (bids : List ℕ) (reserve : ℕ) → 1 ≤ length bids
    → IsSale bids reserve (sale_of bids reserve)
sale_is bids reserve some =
    let position : ℕ = (outcome_of bids).position in
    let price : ℕ = (outcome_of bids).price in
    let is = outcome_is_vickrey bids some in
    let most : bid_at bids position ≡ greatest bids = outcome_bids_most bids some in
    elim (cases_lt (greatest bids) reserve) [
      | inl below ↦ subst (IsSale bids reserve) (sym (unsold_where bids reserve below))
          (unsold_below bids reserve position price is (omega arith))
      | inr meets ↦ subst (IsSale bids reserve) (sym (sold_where bids reserve meets))
          (sold_at_greater bids reserve position price (max price reserve) is (omega arith) refl)
    ]

-- any other by maxima is the same
pub sale_same : (bids : List ℕ) (reserve : ℕ) (found : Sale) → 1 ≤ length bids
    → IsSale bids reserve found → found ≡ sale_of bids reserve
sale_same bids reserve found some is =
    sale_is_one bids reserve found (sale_of bids reserve) is (sale_is bids reserve some)

-- without a reserve it is the outcome
pub sale_without : (bids : List ℕ)
    → sale_of bids 0 ≡ Sold (outcome_of bids).position (outcome_of bids).price
sale_without bids =
    let same : max (outcome_of bids).price 0 ≡ (outcome_of bids).price = omega arith in
    sold_where bids 0 (omega arith) ∙ ap (Sold (outcome_of bids).position) same
