-- What an honest prover answers is accepted: of every proof behind any front, and so of auctions
-- with their boards.
use Rattle.std.specs.Prelude.{◌≡◌, ℕ, All, List, length, map, take}
use Rattle.vk_board.specs.declared.front.Front.{Front}
use Rattle.vk_reply.specs.declared.challenge.Challenge.{Challenge}
use Rattle.vk_reply.specs.Texts.{challenge_text}
use Rattle.vk_reply.specs.Values.{IsChallenge}
use Rattle.vk_judge.specs.Statement.{StatementValue}
use Rattle.vk_judge.specs.Acceptance.{AcceptsBehind, file_text}
use Rattle.vk_verifier.specs.Acceptance.{Accepts}
use Rattle.vk_keeper.specs.Auctions.{IsSealRow}
use Rattle.vk_keeper.specs.declared.auction.Auction.{Auction}
use Rattle.vk_job.specs.Proofs.{ProofValue, IsProof, lanes_in, reply_in, seal_lines_of}
use Rattle.vk_job.specs.Outcome.{position_in}
use Rattle.vk_job.specs.Jobs.{IsProvedAuction, sale_in}
use Rattle.vk_job.specs.Published.{IsChallengeTo, board_of, head_of, reply_of}

-- ---- of every proof

-- what a proof shows: of its auction, in its lanes, of the seals of its rows, by its circuit
abbrev pub statement_in : ProofValue → StatementValue
statement_in proof = record {
  auction = proof.id;
  lanes = proof.lanes;
  seals = map seal_lines_of proof.rows;
  plan = proof.plan;
}

-- the seal of each row is that of its secret, of the proof's auction and lanes, and the sealed
-- numbers, which are below 2^width, are the values of the inputs
pub record IsSealedProof (width : ℕ) (proof : ProofValue) : Type 0 where
  pub right : IsProof proof
  pub rows : All (IsSealRow proof.id width proof.lanes) proof.rows
  pub inputs : take (length proof.rows) proof.values ≡ map (λ row. row.secret.bid) proof.rows

-- the reply to any challenge with a bit for each lane is accepted behind any front
abbrev pub ProofsAreAccepted : Type 0
ProofsAreAccepted = (width : ℕ) (proof : ProofValue) (front : List ℕ) (challenge : Challenge)
    → IsSealedProof width proof → IsChallenge challenge → length challenge.bits ≡ proof.lanes
    → AcceptsBehind (statement_in proof) front (file_text front (lanes_in proof))
    (challenge_text challenge) (reply_in proof challenge.bits)

-- ---- of auctions

-- a law of every auction that is proved and every such challenge to it
abbrev pub WhereChallenged : (Auction → Challenge → Type 0) → Type 0
WhereChallenged Law = (auction : Auction) (challenge : Challenge)
    → IsProvedAuction auction → IsChallengeTo auction challenge → Law auction challenge

-- the reply is accepted with the board
abbrev pub AnswersAreAccepted : Type 0
AnswersAreAccepted = WhereChallenged
    (λ auction challenge. Accepts (board_of auction) (challenge_text challenge)
    (reply_of auction challenge))

-- what stands on the board before its first lane, with the place of the winner's seal where there
-- is one
abbrev pub front_of : Auction → Front
front_of auction = record {
  head = head_of auction;
  seals = map seal_lines_of auction.seals;
  position = position_in (sale_in auction);
}
