-- Several equal units sold at one price: a unit each to those who bid most, at the most that
-- another bids. Positions count from 1.
use Rattle.std.specs.Prelude.{ℕ, ◌-◌, ◌<◌, ◌≤◌, ◌≡◌, List, All, AllPairs, Contains, length, slice_index}

-- a position among so many bids
pub record IsPositionAmong (count position : ℕ) : Type 0 where
  pub some : 1 ≤ position
  pub within : position ≤ count

-- the bid at a position
abbrev pub bid_at : List ℕ → ℕ → ℕ
bid_at bids position = slice_index bids (position - 1)

-- each number is below all later ones
abbrev pub IsAscending : List ℕ → Type 0
IsAscending numbers = AllPairs (λ earlier later. earlier < later) numbers

-- a position that is none of the winners'
pub record IsLoser (count : ℕ) (winners : List ℕ) (position : ℕ) : Type 0 where
  pub is_position : IsPositionAmong count position
  pub loses : ¬ Contains winners position

-- who bids more, or as much from a position before
pub record Beats (bids : List ℕ) (winner loser : ℕ) : Type 0 where
  pub bids_no_less : bid_at bids loser ≤ bid_at bids winner
  pub bids_more_behind : loser < winner → bid_at bids loser < bid_at bids winner

-- a loser bids exactly the price
pub record IsLosersBid (bids winners : List ℕ) (price : ℕ) : Type 0 where
  pub holder : ℕ
  pub is_loser : IsLoser (length bids) winners holder
  pub bids_price : bid_at bids holder ≡ price

-- the winners, in ascending order, beat everyone else; the price is the most that a loser bids, and
-- 0 where there is none
pub record IsUniformOutcome (bids winners : List ℕ) (price : ℕ) : Type 0 where
  pub are_positions : All (IsPositionAmong (length bids)) winners
  pub ascending : IsAscending winners
  pub winners_beat : (winner loser : ℕ) → Contains winners winner
      → IsLoser (length bids) winners loser
      → Beats bids winner loser
  pub all_win_for_0 : ((position : ℕ) → ¬ IsLoser (length bids) winners position) → price ≡ 0
  pub losers_within_price : (loser : ℕ) → IsLoser (length bids) winners loser
      → bid_at bids loser ≤ price
  pub price_is_bid : (loser : ℕ) → IsLoser (length bids) winners loser
      → IsLosersBid bids winners price
