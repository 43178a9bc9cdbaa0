-- What the house's commands leave, one by one, whatever the words of the run; and what runs on one
-- keeper are.
use Rattle.std.specs.Prelude.{◌≡◌, ◌≢◌, ◌⊎◌, ℕ, List, [], ◌∷◌, Option, Some, None, Contains, IsSomeAnd}
use Rattle.std.specs.FinMap.{get, insert}
use Rattle.vk_io.specs.Files.{Files}
use Rattle.vk_reply.specs.declared.challenge.Challenge.{Challenge}
use Rattle.vk_reply.specs.Tables.{challenge_table}
use Rattle.vk_reply.specs.Texts.{challenge_text}
use Rattle.vk_seal.specs.Tables.{seal_table, secret_table}
use Rattle.vk_verifier.specs.Acceptance.{Accepts}
use Rattle.vk_keeper.specs.declared.auction.Auction.{Auction}
use Rattle.vk_keeper.specs.Auctions.{challenge_of, seed_of}
use Rattle.vk_keeper.specs.Joining.{first_of}
use Rattle.vk_keeper.specs.Ledgers.{Ledger, IsLedger}
use Rattle.vk_job.specs.Jobs.{IsProvedAuction}
use Rattle.vk_job.specs.Published.{board_of, reply_of}
use Rattle.vk_house.specs.Commands.{HouseCommand}
use Rattle.vk_house.specs.Steps.{house_step}
use Rattle.vk_words.specs.Commands.{CommandWords, House, Ceremony, command_words}
use Rattle.vk_words.specs.Orders.{HouseWords, Submit, Prove, Answer}
use Rattle.vk_effect.specs.Effects.{IsSaid, SaidValue}
use Rattle.vk_effect.specs.Reading.{faulty_said, unheld_said}
use Rattle.vk_auctioneer.specs.Lines.{reply_said}
use Rattle.vk_ceremony.specs.Acts.{HouseAct, IsAct, Performs}
use Rattle.vk_ceremony.specs.Runs.{asked_in, orders_in}

-- ---- one command

-- it asks the house this: it keeps the ledger of the house's step, and says its reply
pub record IsHouseStep (act : HouseAct) (command : HouseCommand) : Type 0 where
  pub kept : act.kept ≡ (house_step act.ledger command).1
  pub said : act.said ≡ reply_said command (house_step act.ledger command).0

-- what is said of the files that a command names, by the first of these tests that fails: each is
-- held and not too long, and then each has no fault line by its table
abbrev pub input_fault : Files → HouseWords → Option SaidValue
input_fault files (Submit id seal secret) =
    first_of
    (unheld_said seal (get files seal)
    ∷ unheld_said secret (get files secret)
    ∷ faulty_said seal_table seal (get files seal)
    ∷ faulty_said secret_table secret (get files secret)
    ∷ [])
input_fault files (Answer id challenge reply) =
    first_of (unheld_said challenge (get files challenge)
    ∷ faulty_said challenge_table challenge (get files challenge) ∷ [])
input_fault files order = None

-- what it asks the house is a step of the house. Where it asks nothing, it says which of its files
-- is at fault. Then, and where its status isn't 0, all is left as it was
pub record KeepsToSteps (act : HouseAct) : Type 0 where
  pub step : (command : HouseCommand) → asked_in act.files act.order ≡ Some command
      → IsHouseStep act command
  pub unasked : asked_in act.files act.order ≡ None
      → Some act.said ≡ input_fault act.files act.order
  pub refused : (asked_in act.files act.order ≡ None) ⊎ (act.said.status ≢ 0)
      → (act.left ≡ act.files) × (act.kept ≡ act.ledger)

-- under the id it leaves an auction that is proved with the seed, and the file of that name is its
-- board
pub record ActLeavesBoard (id seed board : List ℕ) (act : HouseAct) : Type 0 where
  pub auction : Auction
  pub stands : get act.kept id ≡ Some auction
  pub proved : IsProvedAuction auction
  pub seed_is : seed_of auction.phase ≡ Some seed
  pub written : act.left ≡ insert act.files board (board_of auction)

-- so does each `prove` that is done with status 0
abbrev pub PublishesBoard : HouseAct → Type 0
PublishesBoard act = (id seed board : List ℕ) → act.order ≡ Prove id seed board
    → act.said.status ≡ 0 → ActLeavesBoard id seed board act

-- under the id it leaves an auction that is proved and has answered the challenge of the named
-- file. The file of the reply's name is its reply, which is accepted with its board and that
-- challenge
pub record ActLeavesReply (id challenge reply : List ℕ) (act : HouseAct) : Type 0 where
  pub auction : Auction
  pub answered : Challenge
  pub stands : get act.kept id ≡ Some auction
  pub proved : IsProvedAuction auction
  pub answered_is : challenge_of auction.phase ≡ Some answered
  pub read : get act.files challenge ≡ Some (challenge_text answered)
  pub written : act.left ≡ insert act.files reply (reply_of auction answered)
  pub accepted : Accepts (board_of auction) (challenge_text answered) (reply_of auction answered)

-- so does each `answer` that is done with status 0
abbrev pub PublishesReply : HouseAct → Type 0
PublishesReply act = (id challenge reply : List ℕ) → act.order ≡ Answer id challenge reply
    → act.said.status ≡ 0 → ActLeavesReply id challenge reply act

-- ---- one run

-- the commands of the house that words are, over these files: one; those of a script, in their
-- order; or none are meant
abbrev pub orders_of : Files → Option CommandWords → Option (List HouseWords)
orders_of files (Some (House order)) = Some (order ∷ [])
orders_of files (Some (Ceremony script)) = Some (orders_in files script)
orders_of files command = None

-- the first of these orders were done by these acts, and where there is one the next was stopped at
-- this act. This is held and kept after them
pub record PerformsTo (orders : List HouseWords) (files : Files) (ledger : Ledger)
    (acts : List HouseAct) (stop : Option HouseAct) (held : Option Files) (kept : Option Ledger)
    : Type 0 where
  pub left : Files
  pub last : Ledger
  pub held_is : held ≡ Some left
  pub kept_is : kept ≡ Some last
  pub performs : Performs orders files ledger acts stop left last

-- where none are meant nothing is done, and the ledger stays
abbrev pub PerformsAt : Option (List HouseWords) → Files → Ledger → List HouseAct → Option HouseAct
    → Option Files → Option Ledger → Type 0
PerformsAt (Some orders) files ledger acts stop held kept =
    PerformsTo orders files ledger acts stop held kept
PerformsAt None files ledger acts stop held kept = (acts ≡ []) × (stop ≡ None)
    × (kept ≡ Some ledger)

-- it is one of these acts that were done, or the one that was stopped
abbrev pub IsActIn : List HouseAct → Option HouseAct → HouseAct → Type 0
IsActIn acts stop act = Contains acts act ⊎ (stop ≡ Some act)

-- what a run does at the house, whether it came to its end or was stopped: these acts, and the one
-- that was stopped when the house had kept it. Each is a step of the house; a board is that of the
-- auction that is kept, and a reply is accepted with it. What is kept stays a ledger
pub record ServesHouse (words : List (List ℕ)) (files : Files) (ledger : Ledger)
    (acts : List HouseAct) (stop : Option HouseAct) (held : Option Files) (kept : Option Ledger)
    : Type 0 where
  pub performs : PerformsAt (orders_of files (command_words words)) files ledger acts stop held kept
  pub steps : (act : HouseAct) → IsActIn acts stop act → KeepsToSteps act
  pub ledgers : IsLedger ledger → IsSomeAnd kept IsLedger
  pub boards : IsLedger ledger → (act : HouseAct) → IsActIn acts stop act → PublishesBoard act
  pub replies : IsLedger ledger → (act : HouseAct) → IsActIn acts stop act → PublishesReply act

-- there are such acts
pub record Serves (words : List (List ℕ)) (files : Files) (ledger : Ledger) (held : Option Files)
    (kept : Option Ledger) : Type 0 where
  pub acts : List HouseAct
  pub stop : Option HouseAct
  pub serves : ServesHouse words files ledger acts stop held kept

-- one command of the house came to its end: it is an act on what was found, this is held and kept
-- after it, and what it says is the status and was put
pub record CommandIsDone (order : HouseWords) (files : Files) (ledger : Ledger)
    (held : Option Files) (kept : Option Ledger) (status : ℕ) (old new : Option (List ℕ)) : Type 0
  where
    pub act : HouseAct
    pub is : IsAct act
    pub steps : KeepsToSteps act
    pub order_is : act.order ≡ order
    pub found : (act.files ≡ files) × (act.ledger ≡ ledger)
    pub left : (held ≡ Some act.left) × (kept ≡ Some act.kept)
    pub says : IsSaid act.said status old new

-- ---- runs one after another

-- one run: its words, the files and the ledger before and after, its acts, and the one that was
-- stopped
pub record Run : Type 0 where
  pub words : List (List ℕ)
  pub files : Files
  pub ledger : Ledger
  pub acts : List HouseAct
  pub stop : Option HouseAct
  pub left : Files
  pub kept : Ledger

-- what `run` says of it
abbrev pub IsRun : Run → Type 0
IsRun one = ServesHouse one.words one.files one.ledger one.acts one.stop (Some one.left)
    (Some one.kept)

-- these are runs one after another on one keeper, from the one ledger to the other. Between them
-- the files may change
abbrev pub AreRuns : List Run → Ledger → Ledger → Type 0
AreRuns [] old new = new ≡ old
AreRuns (one ∷ later) old new = (one.ledger ≡ old) × IsRun one × AreRuns later one.kept new

-- the act is one of some run's among these: of a command's, or of a ceremony's that ended or was
-- stopped later; or the one that was stopped itself
abbrev pub IsActOf : List Run → HouseAct → Type 0
IsActOf runs act = (one : Run) × Contains runs one × IsActIn one.acts one.stop act

-- it is a `prove` of that auction that was done with status 0, and left this board; or one that was
-- stopped, whose file holds this board or its first bytes, or is as before
pub record Proves (act : HouseAct) (id published : List ℕ) : Type 0 where
  pub seed : List ℕ
  pub board : List ℕ
  pub order_is : act.order ≡ Prove id seed board
  pub done : act.said.status ≡ 0
  pub published_is : get act.left board ≡ Some published

-- it is an `answer` of that auction that was done with status 0: it was given this challenge, and
-- left this reply; or one that was stopped, whose file holds it or its first bytes, or is as before
pub record Answers (act : HouseAct) (id given shown : List ℕ) : Type 0 where
  pub challenge : List ℕ
  pub reply : List ℕ
  pub order_is : act.order ≡ Answer id challenge reply
  pub done : act.said.status ≡ 0
  pub given_is : get act.files challenge ≡ Some given
  pub shown_is : get act.left reply ≡ Some shown
