-- What the house is asked in a ceremony, and what it replies.
use Rattle.std.specs.Prelude.{◌≡◌, List, [], ◌∷◌, ℕ, Option, Some, None, option_map, Result, Ok, Err}
use Rattle.std.specs.Result.{result_ok}
use Rattle.vk_io.specs.Files.{Files}
use Rattle.vk_io.specs.Writing.{written}
use Rattle.vk_lines.specs.Lines.{Rest}
use Rattle.vk_keeper.specs.Ledgers.{Ledger}
use Rattle.vk_house.specs.Commands.{HouseCommand}
use Rattle.vk_house.specs.Commands as house
use Rattle.vk_house.specs.Runs.{Event, HouseRun}
use Rattle.vk_effect.specs.Effects.{Effect, SaidValue, said_of}
use Rattle.vk_effect.specs.Sequences.{last_ledger}
use Rattle.vk_words.specs.Orders.{HouseWords, Announce, AnnounceReserve, Submit, Prove, Answer, Show}
use Rattle.vk_auctioneer.specs.Inputs.{challenge_in, row_in}
use Rattle.vk_auctioneer.specs.Lines.{reply_said}
use Rattle.vk_ceremony.specs.Scripts.{script_at, script_begun}

-- what a command asks the house, where the files that it names can be read
abbrev pub asked_in : Files → HouseWords → Option HouseCommand
asked_in files (Announce id width lanes) = Some (house.Announce id width lanes)
asked_in files (AnnounceReserve id width lanes reserve) =
    Some (house.AnnounceReserve id width lanes reserve)
asked_in files (Submit id seal secret) =
    option_map (λ row. house.Submit id row.seal row.secret) (result_ok (row_in files seal secret))
asked_in files (Prove id seed board) = Some (house.Prove id seed)
asked_in files (Answer id challenge reply) =
    option_map (house.Answer id) (result_ok (challenge_in files challenge))
asked_in files (Show id) = Some (house.Show id)

-- the first of the events is that of a command that asks this, which says the reply; the others are
-- those of the later commands. All are, where nothing is asked
abbrev pub Asks : Option HouseCommand → Effect → (List Event → Type 0) → List Event → Type 0
Asks None effect later events = later events
Asks (Some command) effect later [] = ⊥
Asks (Some command) effect later (event ∷ events) = (event.command ≡ command)
    × (said_of effect ≡ reply_said command event.reply) × later events

-- the events are those of these commands, which have these effects, as far as they are reached
abbrev pub AreEvents : List HouseWords → Files → List Effect → List Event → Type 0
AreEvents orders files [] events = events ≡ []
AreEvents [] files (effect ∷ effects) events = ⊥
AreEvents (order ∷ orders) files (effect ∷ effects) events =
    Asks (asked_in files order) effect (AreEvents orders (written effect.writes files) effects)
    events

-- what the commands that are reached ask the house, and what it replies, are calls one after
-- another, from this ledger to the one that the commands leave
pub record IsRun (orders : List HouseWords) (files : Files) (ledger : Ledger)
    (commands : List Effect) : Type 0 where
  pub events : List Event
  pub last : Ledger
  pub are : AreEvents orders files commands events
  pub leaves : last_ledger (Some ledger) commands ≡ Some last
  pub run : HouseRun events ledger last

-- the commands of a script, none where it isn't begun
abbrev pub orders_behind : List ℕ → Result Rest SaidValue → List HouseWords
orders_behind script (Ok rest) = (script_at script rest).orders
orders_behind script (Err said) = []

abbrev pub orders_in : Files → List ℕ → List HouseWords
orders_in files script = orders_behind script (script_begun files script)
