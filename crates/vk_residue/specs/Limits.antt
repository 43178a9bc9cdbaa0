-- How wide the bids of an auction may be, and in how many lanes it may be proved.
use Rattle.std.specs.Prelude.{ℕ, ◌≤◌}

-- a width of bids, in bits
pub record IsWidth (width : ℕ) : Type 0 where
  pub least : 1 ≤ width
  pub most : width ≤ 40

-- a number of lanes
pub record IsLaneCount (lanes : ℕ) : Type 0 where
  pub least : 1 ≤ lanes
  pub most : lanes ≤ 64

-- the size of an auction: the width of its bids and the number of its lanes
pub record IsSize (bits count : ℕ) : Type 0 where
  pub width : IsWidth bits
  pub lanes : IsLaneCount count
