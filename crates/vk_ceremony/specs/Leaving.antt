-- What a ceremony leaves of the files where they are modelled, whether or not its keeper is.
use Rattle.std.specs.Prelude.{◌≡◌, ℕ, ◌||◌, Bool, false, List, [], ◌∷◌, Result, Ok, Err, IsTrue, IsFalse, ◌⊎◌}
use Rattle.vk_io.specs.Files.{Files, Modelled}
use Rattle.vk_io.specs.declared.errors.OutsideErr.{OutsideErr}
use Rattle.vk_lines.specs.Lines.{LinesValue, Rest, rest_of}
use Rattle.vk_effect.specs.Effects.{Outside, SaidValue}
use Rattle.vk_words.specs.Orders.{HouseWords}
use Rattle.vk_auctioneer.specs.Leaving.{LeavesFiles, LeavesStopped}
use Rattle.vk_ceremony.specs.declared.holding.Turn.{Turn}
use Rattle.vk_ceremony.specs.declared.holding.Turn.TheVariants.{Next, Ended}
use Rattle.vk_ceremony.specs.Ceremonies.{closing_said, goes_on, is_refusal}
use Rattle.vk_ceremony.specs.Runs.{orders_in}
use Rattle.vk_ceremony.specs.Scripts.{Script, script_at, script_begun}
use Rattle.vk_ceremony.specs.Turns.{TurnsSome, left_of, stores_of}

-- these orders were done one after another, and each left of the files what its own status says.
-- One that was done or refused is followed by the next; any other ends the ceremony with its
-- status. Behind the last one the status is that of the closing line
abbrev pub OrdersLeave : (Bool → SaidValue) → Bool → List HouseWords → (status : ℕ) → Files → Files
    → Type 0
OrdersLeave closing refused [] status old new = (status ≡ (closing refused).status) × (new ≡ old)
OrdersLeave closing refused (order ∷ orders) status old new =
    (ended : ℕ) × ((between : Files) × LeavesFiles order ended old between
    × ((IsTrue (goes_on ended)
    × OrdersLeave closing (refused || is_refusal ended) orders status between new)
    ⊎ (IsFalse (goes_on ended) × (status ≡ ended) × (new ≡ between))))

-- the same of what a script of that name says
abbrev pub ScriptLeaves : List ℕ → Bool → Script → (status : ℕ) → Files → Files → Type 0
ScriptLeaves script refused said status old new =
    OrdersLeave (closing_said script said.fault) refused said.orders status old new

-- by what is left of the script behind its first line, or by what is said of it
abbrev pub BehindLeaves : List ℕ → Result Rest SaidValue → (status : ℕ) → Files → Files → Type 0
BehindLeaves script (Ok rest) status old new =
    ScriptLeaves script false (script_at script rest) status old new
BehindLeaves script (Err said) status old new = (status ≡ said.status) × (new ≡ old)

-- what a ceremony of the script of that name leaves that ended with that status
abbrev pub CeremonyLeaves : List ℕ → (status : ℕ) → Files → Files → Type 0
CeremonyLeaves script status old new = BehindLeaves script (script_begun old script) status old new

-- ---- it was stopped

-- the first of these orders were done one after another, and each left of the files what its own
-- status says, which is one that the next order follows. That one was stopped, and left what such a
-- one leaves; where none is left all files stay
abbrev pub OrdersStop : List HouseWords → Files → Files → Type 0
OrdersStop [] old new = new ≡ old
OrdersStop (order ∷ orders) old new = LeavesStopped order old new
    ⊎ ((ended : ℕ) × ((between : Files) × LeavesFiles order ended old between
    × IsTrue (goes_on ended) × OrdersStop orders between new))

-- what a ceremony of the script of that name leaves that was stopped
abbrev pub CeremonyStops : List ℕ → Files → Files → Type 0
CeremonyStops script old new = OrdersStop (orders_in old script) old new

-- ---- by its answer

-- what a ceremony leaves that ended or was stopped
abbrev pub LeavesAnswered : List ℕ → Result ℕ OutsideErr → Files → Files → Type 0
LeavesAnswered script (Ok status) old new = CeremonyLeaves script status old new
LeavesAnswered script (Err stop) old new = CeremonyStops script old new

-- and what is left by what a script of that name says
abbrev pub SaidLeaves : List ℕ → Bool → Script → Result ℕ OutsideErr → Files → Files → Type 0
SaidLeaves script refused said (Ok status) old new =
    ScriptLeaves script refused said status old new
SaidLeaves script refused said (Err stop) old new = OrdersStop said.orders old new

-- by what stands behind these lines
abbrev pub HoldLeaves : List ℕ → LinesValue → Result ℕ OutsideErr → Files → Files → Type 0
HoldLeaves script start answer old new =
    SaidLeaves script false (script_at script (rest_of start old)) answer old new

-- ---- a turn of it

-- what a command leaves that ended or was stopped
abbrev pub OrderLeaves : HouseWords → Result ℕ OutsideErr → Files → Files → Type 0
OrderLeaves order (Ok status) old new = LeavesFiles order status old new
OrderLeaves order (Err stop) old new = LeavesStopped order old new

-- whatever is left by what stands behind these lines, what stood before them leaves from the
-- beginning
abbrev pub Continues : List ℕ → Bool → LinesValue → Bool → LinesValue → Files → Files → Type 0
Continues script refused before now lines old new =
    (answer : Result ℕ OutsideErr) (last : Files)
    → SaidLeaves script now (script_at script (rest_of lines new)) answer new last
    → SaidLeaves script refused (script_at script (rest_of before old)) answer old last

-- one command was done and the script goes on so, or it ended
abbrev pub TurnLeaves : List ℕ → Bool → (before lines : LinesValue) → Result Turn OutsideErr → Files
    → Files → Type 0
TurnLeaves script refused before lines (Ok (Next now)) old new =
    Continues script refused before now lines old new
TurnLeaves script refused before lines (Ok (Ended status)) old new =
    ScriptLeaves script refused (script_at script (rest_of before old)) status old new
TurnLeaves script refused before lines (Err stop) old new =
    OrdersStop (script_at script (rest_of before old)).orders old new

-- a turn of a ceremony, from these lines to those behind its line
pub record TakesTurn (script : List ℕ) (refused : Bool) (before lines : LinesValue)
    (answer : Result Turn OutsideErr) (old new : Outside) : Type 0 where
  -- where files and keeper are modelled, of what is left of the ceremony
  pub turns : TurnsSome script lines (left_of script refused before (stores_of old)) answer old new
  -- where the files are, whether or not the keeper is, of these
  pub files : Modelled (TurnLeaves script refused before lines answer) old.files new.files
