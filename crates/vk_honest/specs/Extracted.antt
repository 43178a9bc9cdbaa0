-- What two replies of an honest auctioneer open: the bids that were sealed.
use Rattle.std.specs.Prelude.{◌≡◌, ◌≢◌, ℕ, true, false, not, List, length, map}
use Rattle.vk_extractor.specs.Confronting.{secret_opening}
use Rattle.vk_reply.specs.declared.challenge.Challenge.{Challenge}
use Rattle.vk_reply.specs.Texts.{challenge_text}
use Rattle.vk_keeper.specs.declared.auction.Auction.{Auction}
use Rattle.vk_keeper.specs.declared.auction.SealRow.{SealRow}
use Rattle.vk_bids.specs.declared.bids.OpenedBid.{OpenedBid}
use Rattle.vk_bids.specs.declared.bids.LaneBids.{LaneBids}
use Rattle.vk_bids.specs.declared.extraction.Extracted.{Extracted}
use Rattle.vk_bids.specs.declared.extraction.Extraction.TheVariants.{Bids}
use Rattle.vk_bids.specs.Extraction.{extraction_in}
use Rattle.vk_bids.specs.Headline.{differing}
use Rattle.vk_bids.specs.Texts.{has_one_bid}
use Rattle.vk_job.specs.Jobs.{IsProvedAuction}
use Rattle.vk_job.specs.Published.{IsChallengeTo, board_of, reply_of}
use Rattle.vk_honest.specs.Answers.{front_of}

-- the bid of a seal, and the halves that its secret has in the lane of that number
abbrev pub bid_in_lane : ℕ → SealRow → OpenedBid
bid_in_lane lane row = record {
  seat = row.seal.seat;
  bid = row.secret.bid;
  first = secret_opening row.secret lane false;
  second = secret_opening row.secret lane true;
}

-- those of all seals in order, in the lane of that number
abbrev pub rows_in_lane : List SealRow → ℕ → LaneBids
rows_in_lane rows lane = record { number = lane; bids = map (bid_in_lane lane) rows }

-- those of an auction, in the order in which they were handed in
abbrev pub bids_in_lane : Auction → ℕ → LaneBids
bids_in_lane auction = rows_in_lane auction.seals

-- the bids of all lanes whose two bits differ, under what the board publishes
abbrev pub sealed_bids : Auction → Challenge → Challenge → Extracted
sealed_bids auction first second =
    record {
      front = front_of auction;
      lanes = map (bids_in_lane auction) (differing 1 first.bits second.bits);
    }

-- the replies to two challenges that differ give these bids, and no clash
abbrev pub RepliesGiveBids : Type 0
RepliesGiveBids =
    (auction : Auction) (first second : Challenge) → IsProvedAuction auction
    → IsChallengeTo auction first → IsChallengeTo auction second
    → first.bits ≢ second.bits
    → extraction_in (board_of auction) (challenge_text first) (reply_of auction first)
    (challenge_text second) (reply_of auction second)
    ≡ Bids (sealed_bids auction first second)

-- the bids of each seal are equal in all of these lanes
abbrev pub BidsAreEqual : Type 0
BidsAreEqual = (auction : Auction) (first second : Challenge) (index : ℕ)
    → has_one_bid index (sealed_bids auction first second).lanes ≡ true

-- where each bit is turned the challenges differ, and all lanes are opened
abbrev pub TurnedOpenAll : Type 0
TurnedOpenAll =
    (auction : Auction) (first second : Challenge) → IsChallengeTo auction first
    → second.bits ≡ map not first.bits
    → (first.bits ≢ second.bits) × (length (sealed_bids auction first second).lanes ≡ auction.lanes)
