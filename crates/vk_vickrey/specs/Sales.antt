-- What comes of a list of bids where the seller names a reserve. Positions count from 1.
use Rattle.std.specs.Prelude.{ℕ, ◌<◌, ◌≤◌, ◌≡◌, ◌≢◌, ◌⊎◌, List, Option, Some, None}
use Rattle.vk_vickrey.specs.declared.sales.Sale.{Sale}
use Rattle.vk_vickrey.specs.declared.sales.Sale.TheVariants.{Sold, Unsold}
use Rattle.vk_vickrey.specs.Outcomes.{bid_at, IsPosition, IsBidElsewhere}

-- who bids most, and is the first who does
pub record IsFirstOfGreatest (bids : List ℕ) (winner : ℕ) : Type 0 where
  pub is_position : IsPosition bids winner
  pub none_bids_more : (other : ℕ) → IsPosition bids other → bid_at bids other ≤ bid_at bids winner
  pub first_of_the_greatest : (other : ℕ) → IsPosition bids other → other < winner
      → bid_at bids other < bid_at bids winner

-- the winner bids the reserve at least; the price is the reserve or what another bids, and none of
-- these is above it
pub record IsSold (bids : List ℕ) (reserve winner price : ℕ) : Type 0 where
  pub wins : IsFirstOfGreatest bids winner
  pub meets_reserve : reserve ≤ bid_at bids winner
  pub reserve_within_price : reserve ≤ price
  pub others_within_price : (other : ℕ) → IsPosition bids other → other ≢ winner
      → bid_at bids other ≤ price
  pub price_is_reserve_or_bid : (price ≡ reserve) ⊎ IsBidElsewhere bids winner price

-- it is sold so, or every bid is below the reserve
abbrev pub IsSale : List ℕ → ℕ → Sale → Type 0
IsSale bids reserve (Sold position price) = IsSold bids reserve position price
IsSale bids reserve Unsold = (position : ℕ) → IsPosition bids position
    → bid_at bids position < reserve

-- what a position and a price tell
abbrev pub sale_at : Option ℕ → ℕ → Sale
sale_at (Some position) price = Sold position price
sale_at None price = Unsold
