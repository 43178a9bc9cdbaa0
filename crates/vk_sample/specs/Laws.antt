-- The laws of samples.
use Rattle.std.specs.Prelude.{◌≡◌, ℕ, length, Ok}
use Rattle.vk_io.specs.Files.{Files}
use Rattle.vk_io.specs.Writing.{written}
use Rattle.vk_reply.specs.Texts.{challenge_text}
use Rattle.vk_verifier.specs.Acceptance.{Accepts}
use Rattle.vk_bids.specs.declared.extraction.Extracted.{Extracted}
use Rattle.vk_bids.specs.declared.extraction.Extraction.TheVariants.{Bids}
use Rattle.vk_keeper.specs.declared.auction.Auction.{Auction}
use Rattle.vk_job.specs.Jobs.{IsProvedAuction, bids_of, seats_of}
use Rattle.vk_job.specs.Published.{IsChallengeTo, board_of, reply_of}
use Rattle.vk_honest.specs.Extracted.{sealed_bids}
use Rattle.vk_honest.specs.Sizes.{line_count}
use Rattle.vk_report.specs.declared.sample.SampleCase.{SampleCase}
use Rattle.vk_report.specs.Samples.{auction_sizes, sample_of}
use Rattle.vk_sample_parts.specs.Auctions.{auction_of}
use Rattle.vk_sample_parts.specs.Texts.{same_count}
use Rattle.vk_sample.specs.Texts.{files_of, sample_read}

-- a law of every number none of whose seeds is dry
abbrev pub OfEachSample : (SampleCase → Auction → Type 0) → Type 0
OfEachSample Law = (number : ℕ) (auction : Auction) → auction_of (sample_of number) ≡ Ok auction
    → Law (sample_of number) auction

-- the auction is proved, of version 1 with no reserve, both challenges are ones to it, and its
-- seals have the seats and the bids of the sample
pub record IsAuctionOf (sample : SampleCase) (auction : Auction) : Type 0 where
  pub proved : IsProvedAuction auction
  pub first : IsChallengeTo auction sample.first
  pub second : IsChallengeTo auction sample.second
  pub version_is : auction.version ≡ 1
  pub width_is : auction.width ≡ auction_sizes.width
  pub lanes_are : auction.lanes ≡ auction_sizes.lanes
  pub reserve_is : auction.reserve ≡ 0
  pub seals_are : length auction.seals ≡ auction_sizes.seals
  pub seats_are : seats_of auction ≡ sample.seats
  pub bids_are : bids_of auction ≡ sample.bids

-- the board and both replies have so many lines
pub record HasLines (sample : SampleCase) (auction : Auction) : Type 0 where
  pub board : line_count (board_of auction) ≡ 104908
  pub first : line_count (reply_of auction sample.first) ≡ 100963
  pub second : line_count (reply_of auction sample.second) ≡ 100963

-- the board and a reply of the auction's honest prover are accepted, for either challenge
pub record SampleIsAccepted (sample : SampleCase) (auction : Auction) : Type 0 where
  pub first : Accepts (board_of auction) (challenge_text sample.first)
      (reply_of auction sample.first)
  pub second : Accepts (board_of auction) (challenge_text sample.second)
      (reply_of auction sample.second)

-- what the two replies open
abbrev pub opened : SampleCase → Auction → Extracted
opened sample auction = sealed_bids auction sample.first sample.second

-- read from files that hold what was written, both replies open the bids that were sealed: in every
-- lane, and of every seal the same
pub record SampleOpensAll (sample : SampleCase) (auction : Auction) : Type 0 where
  pub read : (files : Files) → sample_read (written (files_of sample auction) files)
      ≡ Ok (Bids (opened sample auction))
  pub all_lanes : length (opened sample auction).lanes ≡ auction_sizes.lanes
  pub all_seals : length (opened sample auction).front.seals ≡ auction_sizes.seals
  pub all_same : same_count (length (opened sample auction).front.seals)
      (opened sample auction).lanes ≡ auction_sizes.seals
