-- The second-price outcome of a list of bids. Positions count from 1.
use Rattle.std.specs.Prelude.{ℕ, ◌-◌, ◌<◌, ◌≤◌, ◌≡◌, ◌≢◌, List, length, slice_index}

-- the bid at a position
abbrev pub bid_at : List ℕ → ℕ → ℕ
bid_at bids position = slice_index bids (position - 1)

-- there is such a position
pub record IsPosition (bids : List ℕ) (position : ℕ) : Type 0 where
  pub some : 1 ≤ position
  pub within : position ≤ length bids

-- some other bidder bids exactly the price
pub record IsBidElsewhere (bids : List ℕ) (winner price : ℕ) : Type 0 where
  pub holder : ℕ
  pub is_position : IsPosition bids holder
  pub is_other : holder ≢ winner
  pub bids_price : bid_at bids holder ≡ price

-- the winner bids most, and is the first who does; the price is the most that another bids, and 0
-- where there is no other
pub record IsVickreyOutcome (bids : List ℕ) (winner price : ℕ) : Type 0 where
  pub is_position : IsPosition bids winner
  pub none_bids_more : (other : ℕ) → IsPosition bids other → bid_at bids other ≤ bid_at bids winner
  pub first_of_the_greatest : (other : ℕ) → IsPosition bids other → other < winner
      → bid_at bids other < bid_at bids winner
  pub alone_pays_0 : length bids ≡ 1 → price ≡ 0
  pub others_within_price : 2 ≤ length bids → (other : ℕ) → IsPosition bids other → other ≢ winner
      → bid_at bids other ≤ price
  pub price_is_bid : 2 ≤ length bids → IsBidElsewhere bids winner price
