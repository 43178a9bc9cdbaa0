-- What a ceremony does, where nothing outside fails and memory is given.
use Rattle.std.specs.Prelude.{◌≡◌, ℕ, ◌==◌, ◌||◌, Bool, false, if◌then◌else◌, List, [], ◌∷◌, codes, Option, Some, None, IfSome, option_map, option_and_then, Result, Ok, Err}
use Rattle.vk_io.specs.Files.{Files}
use Rattle.vk_io.specs.declared.errors.OutsideErr.{OutsideErr}
use Rattle.vk_lines.specs.Forms.{line}
use Rattle.vk_lines.specs.Lines.{Rest}
use Rattle.vk_keeper.specs.Ledgers.{Ledger}
use Rattle.vk_effect.specs.Effects.{Effect, Outside, SaidValue, Stores, after, outside, stores}
use Rattle.vk_effect.specs.Sequences.{StopsAmong, done_all, one_effect}
use Rattle.vk_words.specs.Orders.{HouseWords}
use Rattle.vk_auctioneer.specs.Effects.{house_effect}
use Rattle.vk_effect.specs.NamedFiles.{malformed_said}
use Rattle.vk_ceremony.specs.Scripts.{Script, script_at, script_begun}

-- the commands that are reached, each by its effect on what the one before left; and what is said
-- for the ceremony itself: its status and its line, if it has one
pub record Ceremony : Type 0 where
  pub commands : List Effect
  pub closing : SaidValue

-- ---- what is said at its end

-- a script that was read to its end
abbrev pub end_said : Bool → SaidValue
end_said refused = record { status = if refused then 8 else 0; text = line (codes "end") }

-- what is said of a script that was read to its end, or whose line of that number is of another
-- form
abbrev pub closing_said : List ℕ → Option ℕ → Bool → SaidValue
closing_said script None refused = end_said refused
closing_said script (Some number) refused = malformed_said script number

-- no command is reached any more
abbrev pub closed : SaidValue → Ceremony
closed said = record { commands = []; closing = said }

-- a command ended the ceremony by its status
abbrev pub ended_by : Effect → Ceremony
ended_by effect = record {
  commands = effect ∷ [];
  closing = record { status = effect.status; text = [] };
}

-- this command, and then those
abbrev pub with_command : Effect → Ceremony → Ceremony
with_command effect later = record { commands = effect ∷ later.commands; closing = later.closing }

-- ---- command by command

-- the house refused
abbrev pub is_refusal : ℕ → Bool
is_refusal status = status == 8

-- the next line is read after a command that was done or refused
abbrev pub goes_on : ℕ → Bool
goes_on status = status == 0 || is_refusal status

abbrev pub after_command : Effect → Option Ceremony → Option Ceremony
after_command effect later = if goes_on effect.status then option_map (with_command effect) later
    else Some (ended_by effect)

-- the ceremony of these commands, where it is told whether one was refused before
abbrev pub ceremony_from : (Bool → SaidValue) → Bool → List HouseWords → Stores → Option Ceremony
ceremony_from closing refused [] old = Some (closed (closing refused))
ceremony_from closing refused (order ∷ orders) old =
    option_and_then (λ effect. after_command effect
    (ceremony_from closing (refused || is_refusal effect.status) orders (after effect old)))
    (house_effect old.files old.ledger order)

-- that of what a script of that name says
abbrev pub ceremony_by : List ℕ → Bool → Script → Stores → Option Ceremony
ceremony_by script refused said old =
    ceremony_from (closing_said script said.fault) refused said.orders old

-- ---- a script by its name

-- by what is left of the script behind its first line, or by what is said of it
abbrev pub ceremony_behind : List ℕ → Stores → Result Rest SaidValue → Option Ceremony
ceremony_behind script old (Ok rest) = ceremony_by script false (script_at script rest) old
ceremony_behind script old (Err said) = Some (closed said)

-- the ceremony of the script of that name, as far as the outside is modelled: the script by its
-- bytes as they stand before it, since no command of it writes them
abbrev pub ceremony_on : Option Files → Option Ledger → List ℕ → Option Ceremony
ceremony_on files ledger script =
    option_and_then (λ held. ceremony_behind script (stores files ledger)
    (script_begun held script)) files

-- all of it as one command
abbrev pub ceremony_effect : Option Files → Option Ledger → List ℕ → Option Effect
ceremony_effect files ledger script =
    option_map (λ whole. one_effect whole.closing.status ledger whole.commands whole.closing.text)
    (ceremony_on files ledger script)

-- ---- how it ends

-- it came to its end: all commands that are reached were done one after another, and its own line
-- was printed. Or one of them was stopped, or that line was
abbrev pub EndsAll : Result ℕ OutsideErr → Ceremony → Outside → Outside → Type 0
EndsAll (Ok status) whole old new = (status ≡ whole.closing.status)
    × (new ≡ done_all whole.commands whole.closing.text old)
EndsAll (Err stop) whole old new = StopsAmong whole.commands whole.closing.text old new

-- the same of a ceremony that may be known
abbrev pub EndsSome : Option Ceremony → Result ℕ OutsideErr → Outside → Outside → Type 0
EndsSome known answer old new = IfSome known (λ whole. EndsAll answer whole old new)

-- no command was left, and that was said of the ceremony
abbrev pub EndsSaying : SaidValue → Result ℕ OutsideErr → (taken now : Option (List ℕ)) → Type 0
EndsSaying said answer taken now =
    (old : Stores) → EndsAll answer (closed said) (outside old taken) (outside old now)
