-- What an honest auctioneer publishes of an auction that is proved, and what it shows for a
-- challenge.
use Rattle.std.specs.Prelude.{◌≡◌, ℕ, ◌-◌, Bool, false, slice_index_or, List, length, map}
use Rattle.vk_wire.specs.declared.wire.Shown.{Shown}
use Rattle.vk_board.specs.declared.board.Head.{Head}
use Rattle.vk_board.specs.declared.board.LaneLines.{LaneLines}
use Rattle.vk_board.specs.Values.{Board}
use Rattle.vk_board.specs.Texts.{board_text, head_text}
use Rattle.vk_reply.specs.declared.challenge.Challenge.{Challenge}
use Rattle.vk_reply.specs.Values.{IsChallenge}
use Rattle.vk_keeper.specs.declared.auction.Phase.{Phase}
use Rattle.vk_keeper.specs.declared.auction.Phase.TheVariants.{Taking, Proved, Answered}
use Rattle.vk_keeper.specs.declared.auction.Auction.{Auction}
use Rattle.vk_job.specs.Outcome.{price_in}
use Rattle.vk_job.specs.Jobs.{sale_in, winner_of, proof_of}
use Rattle.vk_job.specs.Proofs.{seal_lines_of, lane_in, lanes_in, lane_shown_in, lanes_shown_from, file_pieces, reply_in, reply_pieces_in}

-- ---- the board

-- what the board says of the auction as a whole
unfoldable pub head_of : Auction → Head
head_of auction = record {
  auction = auction.id;
  version = auction.version;
  width = auction.width;
  lanes = auction.lanes;
  seals = length auction.seals;
  reserve = auction.reserve;
  winner = winner_of auction;
  price = price_in (sale_in auction);
}

-- what is published of a lane, counted from 1
abbrev pub lane_of : Auction → ℕ → LaneLines
lane_of auction lane = lane_in (proof_of auction) lane

abbrev pub published : Auction → Board
published auction = record {
  head = head_of auction;
  seals = map seal_lines_of auction.seals;
  lanes = lanes_in (proof_of auction);
}

-- the board's file, and its pieces
abbrev pub board_of : Auction → List ℕ
board_of auction = board_text (published auction)

abbrev pub board_pieces : Auction → List (List ℕ)
board_pieces auction = file_pieces (head_text (head_of auction)) (proof_of auction)

-- ---- the replies

-- a challenge that has a bit for each lane of the auction
pub record IsChallengeTo (auction : Auction) (challenge : Challenge) : Type 0 where
  pub right : IsChallenge challenge
  pub one_bit_each : length challenge.bits ≡ auction.lanes

-- what is shown of a lane, counted from 1, for the bit
abbrev pub shown_in : Auction → ℕ → Bool → List Shown
shown_in auction lane bit = lane_shown_in (proof_of auction) lane bit

-- the bit of a lane, counted from 1, in the challenge that is kept, bit 0 where none is
abbrev pub kept_bit : Phase → ℕ → Bool
kept_bit (Answered seed challenge) lane = slice_index_or challenge.bits (lane - 1) false
kept_bit Taking lane = false
kept_bit (Proved seed) lane = false

-- what is shown of each lane for its bit, from the lane of that number on
abbrev pub shown_from : Auction → ℕ → List Bool → List (List Shown)
shown_from auction lane bits = lanes_shown_from (proof_of auction) lane bits

-- the file of the reply to a challenge that has a bit for each lane, and its pieces
abbrev pub reply_of : Auction → Challenge → List ℕ
reply_of auction challenge = reply_in (proof_of auction) challenge.bits

abbrev pub reply_pieces : Auction → Challenge → List (List ℕ)
reply_pieces auction challenge = reply_pieces_in (proof_of auction) challenge.bits
