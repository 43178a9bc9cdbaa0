-- What the house answers is accepted, and which challenges it answers.
use Rattle.std.specs.Prelude.{◌≡◌, ℕ, List, [], ◌∷◌, Some}
use Rattle.std.specs.FinMap.{get}
use Rattle.vk_commit.specs.Values.{AreBytes}
use Rattle.vk_io.specs.Files.{Files}
use Rattle.vk_io.specs.Writing.{written}
use Rattle.vk_reply.specs.declared.challenge.Challenge.{Challenge}
use Rattle.vk_reply.specs.Texts.{challenge_text}
use Rattle.vk_verifier.specs.Acceptance.{Accepts}
use Rattle.vk_keeper.specs.declared.auction.Auction.{Auction}
use Rattle.vk_keeper.specs.declared.auction.Phase.TheVariants.{Proved}
use Rattle.vk_keeper.specs.Ledgers.{Ledger, IsLedger}
use Rattle.vk_job.specs.Jobs.{IsProvedAuction}
use Rattle.vk_job.specs.Published.{IsChallengeTo, board_of, reply_of}
use Rattle.vk_effect.specs.Effects.{Effect}
use Rattle.vk_coins.specs.Boards.{board_deed}
use Rattle.vk_auctioneer.specs.Effects.{answer_effect}
use Rattle.vk_auctioneer.specs.Laws.{LeavesAuction}
use Rattle.vk_auctioneer.specs.Leaving.{LeavesReply}

-- `answer` ends with status 0
abbrev pub IsAnswered : Files → Ledger → (id challenge_name reply : List ℕ) → Type 0
IsAnswered files ledger id challenge_name reply =
    (answer_effect files ledger id challenge_name reply).status ≡ 0

-- the effect of `answer`: it leaves an auction with whose board, and the challenge of the named
-- file, what it writes is accepted
pub record WritesAccepted (files : Files) (id challenge_name reply : List ℕ) (effect : Effect)
    : Type 0 where
  pub auction : Auction
  pub kept : LeavesAuction effect id auction
  pub challenge_file : List ℕ
  pub read : get files challenge_name ≡ Some challenge_file
  pub reply_file : List ℕ
  pub written : effect.writes ≡ (reply, reply_file) ∷ []
  pub accepted : Accepts (board_of auction) challenge_file reply_file

-- each that does so has such an effect
abbrev pub RepliesAreAccepted : Type 0
RepliesAreAccepted =
    (files : Files) (ledger : Ledger) (id challenge_name reply : List ℕ) → IsLedger ledger
    → AreBytes 16 id → IsAnswered files ledger id challenge_name reply
    → WritesAccepted files id challenge_name reply
    (answer_effect files ledger id challenge_name reply)

-- the auction is proved and was not answered, and the named file is a challenge with a bit for each
-- of its lanes
pub record IsAsked (files : Files) (ledger : Ledger) (id challenge_name : List ℕ)
    (auction : Auction) (seed : List ℕ) (challenge : Challenge) : Type 0 where
  pub held : get ledger id ≡ Some auction
  pub phase : auction.phase ≡ Proved seed
  pub proved : IsProvedAuction auction
  pub asked : IsChallengeTo auction challenge
  pub read : get files challenge_name ≡ Some (challenge_text challenge)

-- every such challenge is answered
abbrev pub ChallengesAreAnswered : Type 0
ChallengesAreAnswered =
    (files : Files) (ledger : Ledger) (id challenge_name reply : List ℕ) (auction : Auction)
    (seed : List ℕ) (challenge : Challenge)
    → IsAsked files ledger id challenge_name auction seed challenge
    → IsAnswered files ledger id challenge_name reply

-- a reply that is left, whether or not the keeper is modelled: the file of the challenge's name
-- held the challenge's text, and with that the reply is accepted with the board of its auction
abbrev pub LeftRepliesAreAccepted : Type 0
LeftRepliesAreAccepted =
    (id challenge_name reply : List ℕ) (old new : Files) (auction : Auction) (challenge : Challenge)
    → LeavesReply id challenge_name reply old new auction challenge
    → (get old challenge_name ≡ Some (challenge_text challenge))
    × Accepts (board_of auction) (challenge_text challenge) (reply_of auction challenge)

-- ---- a challenge that is derived

-- the auction is proved and was not answered, and the named file is its board
pub record IsPublished (files : Files) (ledger : Ledger) (id board : List ℕ) (auction : Auction)
    (seed : List ℕ) : Type 0 where
  pub held : get ledger id ≡ Some auction
  pub phase : auction.phase ≡ Proved seed
  pub proved : IsProvedAuction auction
  pub file : get files board ≡ Some (board_of auction)

-- `coin-board` is done on it, and then `answer` with the challenge that was written
pub record DerivesAnswered (files : Files) (ledger : Ledger)
    (id board challenge reply : List ℕ) : Type 0 where
  pub derived : (board_deed (record { from = board; challenge = challenge }) files).said.status ≡ 0
  pub answered : IsAnswered
      (written (board_deed (record { from = board; challenge = challenge }) files).writes files)
      ledger id challenge reply

-- so is each such board
abbrev pub DerivedAreAnswered : Type 0
DerivedAreAnswered =
    (files : Files) (ledger : Ledger) (id board challenge reply : List ℕ) (auction : Auction)
    (seed : List ℕ)
    → IsPublished files ledger id board auction seed
    → DerivesAnswered files ledger id board challenge reply
