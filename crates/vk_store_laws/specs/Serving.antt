-- Commands of a house on a store: the calls of its keeper that each makes, and what they publish.
use Rattle.std.specs.Prelude.{◌≡◌, ◌⊎◌, ℕ, List, [], ◌∷◌, Option, Some, None, Contains}
use Rattle.std.specs.List.{AllByRecursion}
use Rattle.sqlite.specs.Store.{Ghosts}
use Rattle.sqlite.specs.Held.{Held}
use Rattle.vk_vickrey.specs.declared.sales.Sale.{Sale}
use Rattle.vk_reply.specs.declared.challenge.Challenge.{Challenge}
use Rattle.vk_keeper.specs.declared.auction.Auction.{Auction}
use Rattle.vk_keeper.specs.Ledgers.{Ledger}
use Rattle.vk_house.specs.Commands.{HouseCommand, Prove, Answer, id_of}
use Rattle.vk_house.specs.Replies.{HouseReply, Work}
use Rattle.vk_house.specs.Steps.{step_at, house_step}
use Rattle.vk_store_laws.specs.Runs.{Act, found, kept, stopped, Runs}

-- what is served at a store: a command is done, with this reply; one is stopped while it keeps what
-- its step keeps; or nothing is kept, as where the keeper or want of memory refuses a command,
-- where one is stopped before it keeps anything, and where the store is opened again between two
pub data Served : Type 0 where
  done : HouseCommand → HouseReply → Served
  halted : HouseCommand → Served
  nothing : Served

-- ---- the calls of the keeper

-- the call that keeps an auction, where there is one
abbrev pub keeping : Option Auction → List Act
keeping None = []
keeping (Some auction) = kept auction ∷ []

-- those of a command that is done, by what it finds under its id: it finds that, and keeps what its
-- step keeps anew of that
abbrev pub calls_of : HouseCommand → Option Auction → List Act
calls_of command answer = found (id_of command) answer ∷ keeping (step_at command answer).kept

abbrev pub KeepsNothing : Act → Type 0
KeepsNothing (kept auction) = ⊥
KeepsNothing (stopped auction) = ⊥
KeepsNothing act = Unit {0}

-- the calls that are made for what is served
abbrev pub IsMade : Served → List Act → Type 0
IsMade (done command reply) acts = (answer : Option Auction)
    × (acts ≡ calls_of command answer) × ((step_at command answer).reply ≡ reply)
IsMade (halted command) acts = (answer : Option Auction) × (auction : Auction)
    × ((step_at command answer).kept ≡ Some auction)
    × (acts ≡ found (id_of command) answer ∷ stopped auction ∷ [])
IsMade nothing acts = AllByRecursion KeepsNothing acts

-- ---- what becomes of a ledger

-- a command that is done is its step. Of one that is stopped nothing is kept, or what its step
-- keeps
abbrev pub StepsTo : Served → Ledger → Ledger → Type 0
StepsTo (done command reply) old new = house_step old command ≡ (reply, new)
StepsTo (halted command) old new = (new ≡ old) ⊎ (new ≡ (house_step old command).1)
StepsTo nothing old new = new ≡ old

abbrev pub StepOn : List Served → Ledger → Ledger → Type 0
StepOn [] old new = new ≡ old
StepOn (served ∷ later) old new = (mid : Ledger) × StepsTo served old mid × StepOn later mid new

-- ---- what is published

-- a `prove` of that id was done, and its board is this auction's
abbrev pub Proves : List Served → List ℕ → Auction → Type 0
Proves all id auction = (seed : List ℕ) × (sale : Sale)
    × Contains all (done (Prove id seed) (Work auction sale))

-- an `answer` of that id to the challenge was done, and its reply is this auction's
abbrev pub Answers : List Served → List ℕ → Challenge → Auction → Type 0
Answers all id challenge auction = (sale : Sale)
    × Contains all (done (Answer id challenge) (Work auction sale))

-- ---- at a store

module _ {S : Type 0} (g : Ghosts S) where
  -- all this was served one after another, with these calls of the keeper and no others
  abbrev pub Serves : List Served → Held S → Held S → Type 0
  Serves [] old new = new ≡ old
  Serves (served ∷ later) old new = (acts : List Act) × IsMade served acts
      × ((mid : Held S) × Runs g acts old mid × Serves later mid new)
