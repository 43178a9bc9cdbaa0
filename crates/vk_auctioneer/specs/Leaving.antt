-- What a command of the house leaves of the files where they are modelled, whether or not its
-- keeper is.
use Rattle.std.specs.Prelude.{◌≡◌, ◌≢◌, ◌⊎◌, ℕ, ◌≤◌, List, length, take, Option, Some, Result, Ok, Err}
use Rattle.std.specs.FinMap.{insert}
use Rattle.vk_io.specs.declared.errors.OutsideErr.{OutsideErr}
use Rattle.vk_io.specs.Files.{Files, Modelled}
use Rattle.vk_reply.specs.declared.challenge.Challenge.{Challenge}
use Rattle.vk_keeper.specs.declared.auction.Auction.{Auction}
use Rattle.vk_keeper.specs.Auctions.{challenge_of, seed_of}
use Rattle.vk_job.specs.Jobs.{IsProvedAuction}
use Rattle.vk_job.specs.Published.{IsChallengeTo, board_of, reply_of}
use Rattle.vk_effect.specs.Effects.{SaidValue}
use Rattle.vk_words.specs.Orders.{HouseWords, Prove, Answer}
use Rattle.vk_auctioneer.specs.Laws.{IsText}

-- the auction has that id, and is proved with the seed
pub record IsProvedWith (id seed : List ℕ) (auction : Auction) : Type 0 where
  pub id_is : auction.id ≡ id
  pub proved : IsProvedAuction auction
  pub seed_is : seed_of auction.phase ≡ Some seed

-- the auction has that id, is proved, and has answered this challenge, whose text the file of that
-- name holds
pub record HasAnswered (id challenge_name : List ℕ) (files : Files) (auction : Auction)
    (challenge : Challenge) : Type 0 where
  pub id_is : auction.id ≡ id
  pub proved : IsProvedAuction auction
  pub asked : IsChallengeTo auction challenge
  pub answered : challenge_of auction.phase ≡ Some challenge
  pub read : IsText files challenge_name challenge

-- ---- it was done

-- the named file holds the board of such an auction. All other files stay
pub record LeavesBoard (id seed board : List ℕ) (old new : Files) (auction : Auction) : Type 0 where
  pub is : IsProvedWith id seed auction
  pub files_are : new ≡ insert old board (board_of auction)

-- the named file holds the reply of such an auction to its challenge. All other files stay
pub record LeavesReply (id challenge_name reply : List ℕ) (old new : Files) (auction : Auction)
    (challenge : Challenge) : Type 0 where
  pub is : HasAnswered id challenge_name old auction challenge
  pub files_are : new ≡ insert old reply (reply_of auction challenge)

-- what a command leaves that was done
abbrev pub LeavesDone : HouseWords → Files → Files → Type 0
LeavesDone (Prove id seed board) old new = (auction : Auction)
    × LeavesBoard id seed board old new auction
LeavesDone (Answer id challenge reply) old new = (auction : Auction)
    × ((given : Challenge) × LeavesReply id challenge reply old new auction given)
LeavesDone words old new = new ≡ old

-- what a command leaves that ended with that status: 0 is that of one that was done, and every
-- other leaves all files
pub record LeavesFiles (words : HouseWords) (status : ℕ) (old new : Files) : Type 0 where
  pub done : status ≡ 0 → LeavesDone words old new
  pub refused : status ≢ 0 → new ≡ old

-- ---- it was stopped

-- the named file holds the first bytes of the text, any number of them. All other files stay
abbrev pub HoldsFirst : (name text : List ℕ) → Files → Files → Type 0
HoldsFirst name text old new = (k : ℕ) × (k ≤ length text) × (new ≡ insert old name (take k text))

-- a command that was stopped when its file was made leaves the first bytes of the board of an
-- auction that is proved with the seed, or of the reply to the named challenge of one that has
-- answered it. No other command makes a file
abbrev pub BeginsFile : HouseWords → Files → Files → Type 0
BeginsFile (Prove id seed board) old new = (auction : Auction)
    × IsProvedWith id seed auction × HoldsFirst board (board_of auction) old new
BeginsFile (Answer id challenge reply) old new = (auction : Auction) × ((given : Challenge)
    × HasAnswered id challenge old auction given
    × HoldsFirst reply (reply_of auction given) old new)
BeginsFile words old new = ⊥

-- one that was stopped leaves all files, or those with its file begun so
abbrev pub LeavesStopped : HouseWords → Files → Files → Type 0
LeavesStopped words old new = (new ≡ old) ⊎ BeginsFile words old new

-- ---- by its answer

-- the same of what a command answers
abbrev pub LeavesAnswered : HouseWords → Result SaidValue OutsideErr → Files → Files → Type 0
LeavesAnswered words (Ok said) old new = LeavesFiles words said.status old new
LeavesAnswered words (Err stop) old new = LeavesStopped words old new

-- where the files are modelled
abbrev pub LeavesAsSaid : HouseWords → Result SaidValue OutsideErr → Option Files → Option Files
    → Type 0
LeavesAsSaid words answer held now = Modelled (LeavesAnswered words answer) held now
