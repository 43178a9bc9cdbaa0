-- How a command ends: it was done, or it was stopped.
use Rattle.std.specs.Prelude.{◌≡◌, ℕ, ◌≤◌, List, ◌++◌, length, take, Result, Ok, Err, option_map, ◌⊎◌}
use Rattle.vk_io.specs.Files.{Modelled}
use Rattle.vk_io.specs.Writing.{written, IsDivided}
use Rattle.vk_io.specs.declared.errors.OutsideErr.{OutsideErr}
use Rattle.vk_effect.specs.Effects.{Effect, Outside, SaidValue, Stores, after, puts, said_of}

-- ---- a whole command

-- the command came to its end: all of its effect stands
pub record Done (status : ℕ) (effect : Effect) (old new : Outside) : Type 0 where
  pub status_is : status ≡ effect.status
  pub files_are : new.files ≡ option_map (written effect.writes) old.files
  pub ledger_is : new.ledger ≡ effect.ledger
  pub taken_is : new.taken ≡ puts effect.text old.taken

-- a prefix of the text was taken
abbrev pub TakesPrefix : List ℕ → List ℕ → List ℕ → Type 0
TakesPrefix text before after = (k : ℕ) × (k ≤ length text) × (after ≡ before ++ take k text)

-- the command was stopped before it printed: its files are divided at one of them
pub record StopsWriting (effect : Effect) (old new : Outside) : Type 0 where
  pub files_are : Modelled (IsDivided effect.writes) old.files new.files
  pub taken_is : new.taken ≡ old.taken

-- the command was stopped while it printed: its files are written
pub record StopsPrinting (effect : Effect) (old new : Outside) : Type 0 where
  pub files_are : new.files ≡ option_map (written effect.writes) old.files
  pub taken_is : Modelled (TakesPrefix effect.text) old.taken new.taken

-- the command was stopped: nothing changed; or the ledger is that of the effect, and the command
-- was stopped before it printed or while it did
abbrev pub Stopped : Effect → Outside → Outside → Type 0
Stopped effect old new = (new ≡ old)
    ⊎ ((new.ledger ≡ effect.ledger) × (StopsWriting effect old new ⊎ StopsPrinting effect old new))

-- what a command's answer means for what is outside
abbrev pub Ends : Result ℕ OutsideErr → Effect → Outside → Outside → Type 0
Ends (Ok status) effect old new = Done status effect old new
Ends (Err stop) effect old new = Stopped effect old new

-- ---- all of a command but its printing

-- it said what its effect does, and left what that leaves; stopped, nothing changed, or the ledger
-- is that of the effect and the files are divided at one of them
abbrev pub Acts : Result SaidValue OutsideErr → Effect → Stores → Stores → Type 0
Acts (Ok said) effect old new = (said ≡ said_of effect) × (new ≡ after effect old)
Acts (Err stop) effect old new = (new ≡ old)
    ⊎ ((new.ledger ≡ effect.ledger) × Modelled (IsDivided effect.writes) old.files new.files)
