-- Calls of a house one after another.
use Rattle.std.specs.Prelude.{◌≡◌, ℕ, List, [], ◌∷◌, filter, Option, Some, None}
use Rattle.std.specs.FinMap.{empty, get, insert}
use Rattle.std.specs.Str.{bytes_eq}
use Rattle.vk_keeper.specs.declared.auction.Auction.{Auction}
use Rattle.vk_keeper.specs.Ledgers.{Ledger}
use Rattle.vk_house.specs.Commands.{HouseCommand, id_of}
use Rattle.vk_house.specs.Replies.{HouseReply}
use Rattle.vk_house.specs.Steps.{HouseCall}

-- a command and its reply
pub record Event : Type 0 where
  pub command : HouseCommand
  pub reply : HouseReply

-- these are calls one after another, from the one ledger to the other
abbrev pub HouseRun : List Event → Ledger → Ledger → Type 0
HouseRun [] old new = new ≡ old
HouseRun (event ∷ later) old new =
    (between : Ledger) × HouseCall old event.command event.reply between
    × HouseRun later between new

-- ---- one auction alone

-- the events that speak of an auction, whatever others come between
abbrev pub events_of : List ℕ → List Event → List Event
events_of id events = filter (λ event. bytes_eq (id_of event.command) id) events

-- the ledger that holds what stands under that id and nothing else
abbrev pub holding : List ℕ → Option Auction → Ledger
holding id None = empty
holding id (Some auction) = insert empty id auction

abbrev pub alone : List ℕ → Ledger → Ledger
alone id ledger = holding id (get ledger id)
