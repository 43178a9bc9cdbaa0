-- What the steps of a ceremony answer.
use Rattle.std.specs.Prelude.{◌≡◌, ℕ, ◌+◌, ◌||◌, Bool, if◌then◌else◌, List, map, string_bytes, Option, Some, None, IfSome, option_and_then, Result, Ok, Err, IsSomeAnd}
use Rattle.vk_io.specs.declared.errors.OutsideErr.{OutsideErr}
use Rattle.vk_io.specs.declared.errors.OutsideErr.TheVariants.{Failed}
use Rattle.vk_lines.specs.declared.step.Step.{Step}
use Rattle.vk_lines.specs.declared.step.Step.TheVariants as step
use Rattle.vk_lines.specs.Lines.{LinesValue, Rest, rest_of}
use Rattle.vk_effect.specs.Counts.{CausesThree}
use Rattle.vk_effect.specs.Effects.{Effect, IsCommandEnd, Outside, SaidValue, Stores, done, stores}
use Rattle.vk_words.specs.Orders.{HouseWords}
use Rattle.vk_words.specs.Scripts.{script_words}
use Rattle.vk_ceremony.specs.declared.reading.Line.{Line}
use Rattle.vk_ceremony.specs.declared.reading.Line.TheVariants.{Words, End, Malformed}
use Rattle.vk_ceremony.specs.declared.holding.Turn.{Turn}
use Rattle.vk_ceremony.specs.declared.holding.Turn.TheVariants.{Next, Ended}
use Rattle.vk_ceremony.specs.Scripts.{Script, closes, over_at, script_at, with_order}
use Rattle.vk_ceremony.specs.Ceremonies.{Ceremony, EndsAll, EndsSaying, ceremony_by, goes_on, is_refusal, with_command}

-- ---- a line of a script

-- what is said by a line that is a command, or none, and by what is left behind it
abbrev pub order_then : List ℕ → Option HouseWords → Rest → Script
order_then script (Some order) rest = with_order order (script_at script rest)
order_then script None rest = closes (Some rest.taken)

-- what a script says is what its next line says, and what is left behind it
abbrev pub Stands : List ℕ → Line → Rest → Rest → Type 0
Stands script (Words words) before rest =
    script_at script before ≡ order_then script (script_words script (map string_bytes words.items))
    rest
Stands script End before rest = script_at script before ≡ closes (over_at rest)
Stands script (Malformed number) before rest = script_at script before ≡ closes (Some number)

-- the number of the line behind `end`, by what stands there
abbrev pub over_by : Step → ℕ → Option ℕ
over_by step.End number = None
over_by step.Text number = Some (number + 1)
over_by step.Long number = Some (number + 1)
over_by step.Cut number = Some (number + 1)

abbrev pub IsWords : Line → Type 0
IsWords (Words words) = Unit {0}
IsWords line = ⊥

-- ---- a turn of a ceremony

-- what is left of a ceremony, by what is left of its script, which the stores hold
abbrev pub left_of : List ℕ → Bool → LinesValue → Stores → Option Ceremony
left_of script refused lines old =
    option_and_then (λ files. ceremony_by script refused (script_at script (rest_of lines files))
    old) old.files

-- after a command of this status
abbrev pub turn_by : Bool → ℕ → Turn
turn_by refused status = if goes_on status then Next (refused || is_refusal status)
    else Ended status

abbrev pub IsNextTurn : Turn → Type 0
IsNextTurn (Next refused) = Unit {0}
IsNextTurn (Ended status) = ⊥

abbrev pub stores_of : Outside → Stores
stores_of left = stores left.files left.ledger

-- one command of what was left of a ceremony was done, and this is left after it; or the ceremony
-- ended
abbrev pub Turns : List ℕ → LinesValue → Result Turn OutsideErr → Ceremony → Outside → Outside
    → Type 0
Turns script lines (Ok (Next refused)) whole old new =
    IsSomeAnd (left_of script refused lines (stores_of new))
    (λ later. (effect : Effect) × (whole ≡ with_command effect later) × (new ≡ done effect old))
Turns script lines (Ok (Ended status)) whole old new = EndsAll (Ok status) whole old new
Turns script lines (Err stop) whole old new = EndsAll (Err stop) whole old new

-- the same of what may be known to be left of it
abbrev pub TurnsSome : List ℕ → LinesValue → Option Ceremony → Result Turn OutsideErr → Outside
    → Outside → Type 0
TurnsSome script lines left answer old new =
    IfSome left (λ whole. Turns script lines answer whole old new)

-- the ceremony ended, and that was said of it
abbrev pub ClosesSaying : SaidValue → Result Turn OutsideErr → (taken now : Option (List ℕ))
    → Type 0
ClosesSaying said (Ok (Next refused)) taken now = ⊥
ClosesSaying said (Ok (Ended status)) taken now = EndsSaying said (Ok status) taken now
ClosesSaying said (Err stop) taken now = EndsSaying said (Err stop) taken now

-- the status at the end is none of a ceremony that was stopped
abbrev pub EndsWell : Turn → Type 0
EndsWell (Next refused) = Unit {0}
EndsWell (Ended status) = IsCommandEnd status

-- ---- faults

-- a call over a shelf, a keeper and a sink that answers a fault raised a count of theirs, and any
-- other left all three as they were
abbrev pub CausesAny : {S K W T : Type 0} → (S → ℕ) → (K → ℕ) → (W → ℕ) → Result T OutsideErr
    → S → S → K → K → W → W → Type 0
CausesAny shelf keeper out result old new before after first last =
    CausesThree Failed result (shelf old) (shelf new) (keeper before) (keeper after) (out first)
    (out last)
