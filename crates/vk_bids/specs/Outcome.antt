-- What the bids of a lane show of the published sale.
use Rattle.std.specs.Prelude.{◌≡◌, ℕ, ◌^◌, ◌<◌, All, List, map, slice_get, Some}
use Rattle.vk_board.specs.declared.front.Front.{Front}
use Rattle.vk_board.specs.Reading.{seats_of}
use Rattle.vk_vickrey.specs.Sales.{IsSale, sale_at}
use Rattle.vk_bids.specs.declared.bids.LaneBids.{LaneBids}
use Rattle.vk_bids.specs.declared.bids.OpenedBid.{OpenedBid}
use Rattle.vk_bids.specs.Opening.{OpensSeal}

-- there is one bid for each seal, it opens the seal in the lane of that number, and is below
-- 2^width; and the sale that the bids make under the board's reserve, which is 0 with version 1, is
-- the published one
pub record ShowsOutcome (front : Front) (number : ℕ) (bids : List OpenedBid) : Type 0 where
  pub one_each : map (λ bid. bid.seat) bids ≡ seats_of front.seals
  pub opened : (index : ℕ) (bid : OpenedBid) → slice_get bids index ≡ Some bid
      → OpensSeal front.head.auction front.seals number index bid
  pub within_width : All (λ bid. bid < 2 ^ front.head.width) (map (λ bid. bid.bid) bids)
  pub sale : IsSale (map (λ bid. bid.bid) bids) front.head.reserve
      (sale_at front.position front.head.price)

-- the bids of the lane do
abbrev pub LaneShows : Front → LaneBids → Type 0
LaneShows front lane = ShowsOutcome front lane.number lane.bids
