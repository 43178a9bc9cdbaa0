-- The laws of the auctioneer's commands.
use Rattle.std.specs.Prelude.{◌≡◌, ◌↔◌, ℕ, ◌^◌, ◌<◌, List, [], ◌∷◌, Some, Ok, IsSomeAnd}
use Rattle.std.specs.FinMap.{get}
use Rattle.std.specs.Result.{result_err}
use Rattle.vk_residue.specs.Limits.{IsSize}
use Rattle.vk_commit.specs.Values.{AreBytes}
use Rattle.vk_io.specs.Files.{Files}
use Rattle.vk_reply.specs.declared.challenge.Challenge.{Challenge}
use Rattle.vk_reply.specs.Tables.{challenge_table}
use Rattle.vk_reply.specs.Texts.{challenge_text}
use Rattle.vk_reply.specs.Values.{IsChallenge}
use Rattle.vk_seal.specs.Tables.{seal_table, secret_table}
use Rattle.vk_seal.specs.Texts.{seal_text, secret_text}
use Rattle.vk_seal.specs.Values.{IsSeal, IsSecret}
use Rattle.vk_keeper.specs.declared.auction.Auction.{Auction}
use Rattle.vk_keeper.specs.declared.auction.SealRow.{SealRow}
use Rattle.vk_keeper.specs.Auctions.{challenge_of, seed_of}
use Rattle.vk_keeper.specs.Joining.{first_of}
use Rattle.vk_keeper.specs.Ledgers.{Ledger, IsLedger}
use Rattle.vk_job.specs.Jobs.{IsProvedAuction}
use Rattle.vk_job.specs.Published.{IsChallengeTo, board_of, reply_of}
use Rattle.vk_words.specs.Orders.{HouseWords, Announce, AnnounceReserve, Submit, Prove, Answer, Show}
use Rattle.vk_effect.specs.Effects.{Effect}
use Rattle.vk_effect.specs.Reading.{IsFile, IsFileOf, faulty_said, unheld_said}
use Rattle.vk_auctioneer.specs.Effects.{answer_effect, prove_effect}
use Rattle.vk_auctioneer.specs.Inputs.{challenge_in, row_in}

-- ---- what the words ask

-- words by which the house may be asked: the id has 16 bytes and the seed 32, and an auction may
-- have the width and the lanes, and the reserve
abbrev pub AreHouseWords : HouseWords → Type 0
AreHouseWords (Announce id width lanes) = AreBytes 16 id × IsSize width lanes
AreHouseWords (AnnounceReserve id width lanes reserve) = AreBytes 16 id × IsSize width lanes
    × (reserve < 2 ^ width)
AreHouseWords (Submit id seal secret) = AreBytes 16 id
AreHouseWords (Prove id seed board) = AreBytes 16 id × AreBytes 32 seed
AreHouseWords (Answer id challenge reply) = AreBytes 16 id
AreHouseWords (Show id) = AreBytes 16 id

-- ---- what is read, by the texts and the tables of the forms

-- the files of those names hold the texts of the seal and the secret
pub record AreTexts (files : Files) (seal_name secret_name : List ℕ) (row : SealRow) : Type 0 where
  pub seal : IsSeal row.seal
  pub secret : IsSecret row.secret
  pub seal_file : IsFile files seal_name (seal_text row.seal)
  pub secret_file : IsFile files secret_name (secret_text row.secret)

-- the file of that name holds the text of the challenge
abbrev pub IsText : Files → List ℕ → Challenge → Type 0
IsText files name challenge = IsFileOf IsChallenge challenge_text files name challenge

-- a seal and a secret are read exactly where the files hold their texts. Otherwise the first of
-- these tests that fails is said
pub record ReadsRow (files : Files) (seal_name secret_name : List ℕ) : Type 0 where
  pub read : (row : SealRow) → (row_in files seal_name secret_name ≡ Ok row)
      ↔ AreTexts files seal_name secret_name row
  pub said : result_err (row_in files seal_name secret_name) ≡ first_of
      (unheld_said seal_name (get files seal_name)
      ∷ unheld_said secret_name (get files secret_name)
      ∷ faulty_said seal_table seal_name (get files seal_name)
      ∷ faulty_said secret_table secret_name (get files secret_name)
      ∷ [])

-- and so is a challenge
pub record ReadsChallenge (files : Files) (name : List ℕ) : Type 0 where
  pub read : (challenge : Challenge) → (challenge_in files name ≡ Ok challenge)
      ↔ IsText files name challenge
  pub said : result_err (challenge_in files name) ≡ first_of
      (unheld_said name (get files name)
      ∷ faulty_said challenge_table name (get files name)
      ∷ [])

-- ---- what is written

-- the effect leaves the auction under the id
abbrev pub LeavesAuction : Effect → List ℕ → Auction → Type 0
LeavesAuction effect id auction = IsSomeAnd effect.ledger (λ ledger. get ledger id ≡ Some auction)

-- the effect of `prove`: it leaves an auction that is proved with the seed, and writes its board
pub record WritesBoard (id seed board : List ℕ) (effect : Effect) (auction : Auction) : Type 0 where
  pub kept : LeavesAuction effect id auction
  pub proved : IsProvedAuction auction
  pub seed_is : seed_of auction.phase ≡ Some seed
  pub written : effect.writes ≡ (board, board_of auction) ∷ []

-- each `prove` that ends with status 0 does so
abbrev pub BoardsAreWritten : Type 0
BoardsAreWritten =
    (ledger : Ledger) (id seed board : List ℕ) → IsLedger ledger → AreBytes 16 id → AreBytes 32 seed
    → (prove_effect ledger id seed board).status ≡ 0
    → (auction : Auction) × WritesBoard id seed board (prove_effect ledger id seed board) auction

-- the effect of `answer`: it leaves an auction that is proved and has answered the challenge of the
-- named file, and writes its reply to that challenge
pub record WritesReply (files : Files) (id challenge_name reply : List ℕ) (effect : Effect)
    (auction : Auction) (challenge : Challenge) : Type 0 where
  pub kept : LeavesAuction effect id auction
  pub proved : IsProvedAuction auction
  pub asked : IsChallengeTo auction challenge
  pub answered : challenge_of auction.phase ≡ Some challenge
  pub read : get files challenge_name ≡ Some (challenge_text challenge)
  pub written : effect.writes ≡ (reply, reply_of auction challenge) ∷ []

-- each `answer` that ends with status 0 does so
abbrev pub RepliesAreWritten : Type 0
RepliesAreWritten =
    (files : Files) (ledger : Ledger) (id challenge_name reply : List ℕ) → IsLedger ledger
    → AreBytes 16 id
    → (answer_effect files ledger id challenge_name reply).status ≡ 0
    → (auction : Auction) × ((challenge : Challenge)
    × WritesReply files id challenge_name reply (answer_effect files ledger id challenge_name reply)
    auction challenge)
