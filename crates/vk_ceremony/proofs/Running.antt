-- The commands of a ceremony that reach the house are calls of it, one after another.
use Rattle.std.proofs.Common.{ℕ, List, [], ◌∷◌, Option, Some, None, refl, sym, ap, subst, ◌∙◌, inl, inr}
use Rattle.std.specs.Prelude.{IsSomeAnd}
use Rattle.vk_io.specs.Files.{Files}
use Rattle.vk_io.specs.Writing.{written}
use Rattle.vk_keeper.specs.Ledgers.{Ledger}
use Rattle.vk_house.specs.Commands.{HouseCommand}
use Rattle.vk_house.specs.Runs.{Event, HouseRun}
use Rattle.vk_house.specs.Steps.{house_step}
use Rattle.vk_effect.specs.Effects.{Effect, stores}
use Rattle.vk_effect.specs.Sequences.{last_ledger}
use Rattle.vk_words.specs.Orders.{HouseWords}
use Rattle.vk_ceremony.specs.Ceremonies.{ceremony_behind}
use Rattle.vk_ceremony.specs.Runs.{AreEvents, Asks, IsRun, asked_in, orders_in}
use Rattle.vk_ceremony.specs.Scripts.{script_begun}
use Rattle.vk_ceremony.proofs.Following.{Follow, Reaches, ceremony_follows, ledger_by, ledger_left, order_reaches, step_call, told_each}

events_by : Option HouseCommand → Ledger → List Event → List Event
events_by None ledger events = events
events_by (Some command) ledger events =
    record { command = command; reply = (house_step ledger command).0 } ∷ events

asks_first : (asked : Option HouseCommand) (ledger : Ledger) (effect : Effect)
    (later : List Event → Type 0) (events : List Event) → Reaches asked ledger effect → later events
    → Asks asked effect later (events_by asked ledger events)
unfolding events_by
asks_first None ledger effect later events reaches are = are
asks_first (Some command) ledger effect later events reaches are = (refl, reaches.1, are)

run_first : (asked : Option HouseCommand) (ledger last : Ledger) (events : List Event)
    → HouseRun events (ledger_by asked ledger) last
    → HouseRun (events_by asked ledger events) ledger last
unfolding events_by
run_first None ledger last events run = run
run_first (Some command) ledger last events run =
    ((house_step ledger command).1, step_call ledger command, run)

-- a command and those after it
run_of : (order : HouseWords) (orders : List HouseWords) (files : Files) (ledger : Ledger)
    (effect : Effect) (effects : List Effect) → Reaches (asked_in files order) ledger effect
    → IsRun orders (written effect.writes files) (ledger_by (asked_in files order) ledger) effects
    → IsRun (order ∷ orders) files ledger (effect ∷ effects)
run_of order orders files ledger effect effects reaches later = record {
  events = events_by (asked_in files order) ledger later.events;
  last = later.last;
  are = asks_first (asked_in files order) ledger effect
      (AreEvents orders (written effect.writes files) effects) later.events reaches later.are;
  leaves = ap (λ left. last_ledger left effects)
      (ledger_left (asked_in files order) ledger effect reaches) ∙ later.leaves;
  run = run_first (asked_in files order) ledger later.last later.events later.run;
}

no_run : (orders : List HouseWords) (files : Files) (ledger : Ledger) → IsRun orders files ledger []
no_run orders files ledger = record {
  events = [];
  last = ledger;
  are = refl;
  leaves = refl;
  run = refl;
}

follow_run : (orders : List HouseWords) (files : Files) (ledger : Ledger) (effects : List Effect)
    → Follow orders files ledger effects → IsRun orders files ledger effects
follow_run orders files ledger [] follows = no_run orders files ledger
follow_run [] files ledger (effect ∷ effects) follows = absurd follows
follow_run (order ∷ orders) files ledger (effect ∷ effects) (is, inl (on, later)) =
    run_of order orders files ledger effect effects (order_reaches files ledger order effect is)
    (follow_run orders (written effect.writes files) (ledger_by (asked_in files order) ledger)
    effects later)
follow_run (order ∷ orders) files ledger (effect ∷ effects) (is, inr (ends, none)) =
    run_of order orders files ledger effect effects (order_reaches files ledger order effect is)
    (subst (IsRun orders (written effect.writes files) (ledger_by (asked_in files order) ledger))
    (sym none) (no_run orders (written effect.writes files)
    (ledger_by (asked_in files order) ledger)))

pub ceremony_runs : (files : Files) (ledger : Ledger) (script : List ℕ)
    → IsSomeAnd (ceremony_behind script (stores (Some files) (Some ledger))
    (script_begun files script))
    (λ whole. IsRun (orders_in files script) files ledger whole.commands)
ceremony_runs files ledger script =
    told_each _ _ (λ whole. follow_run (orders_in files script) files ledger whole.commands) _
    (ceremony_follows files ledger script)
