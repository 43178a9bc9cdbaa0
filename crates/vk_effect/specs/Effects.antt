-- What a command does where nothing outside fails and memory is given.
use Rattle.std.specs.Prelude.{◌≡◌, ◌≢◌, ℕ, List, [], ◌∷◌, ◌++◌, Option, option_map}
use Rattle.vk_io.specs.Files.{Files}
use Rattle.vk_io.specs.Writing.{written}
use Rattle.vk_keeper.specs.Ledgers.{Ledger}

-- ---- what is outside

-- what a command works on, as far as it is modelled: the files, and the auctions that are kept
pub record Stores : Type 0 where
  pub files : Option Files
  pub ledger : Option Ledger

abbrev pub stores : Option Files → Option Ledger → Stores
stores files ledger = record { files = files; ledger = ledger }

-- what is outside of a command, as far as it is modelled: these, and the text that was printed
pub record Outside : Type 0 where
  pub files : Option Files
  pub ledger : Option Ledger
  pub taken : Option (List ℕ)

abbrev pub outside : Stores → Option (List ℕ) → Outside
outside stores taken = record { files = stores.files; ledger = stores.ledger; taken = taken }

-- ---- effects

-- what a command does: its status, the text that it prints at its end, the names and whole texts of
-- the files that it writes, in order, and the ledger that it leaves, where it is modelled
pub record Effect : Type 0 where
  pub status : ℕ
  pub text : List ℕ
  pub writes : List (List ℕ × List ℕ)
  pub ledger : Option Ledger

-- what a command says: its status and its text
pub record SaidValue : Type 0 where
  pub status : ℕ
  pub text : List ℕ

abbrev pub said_of : Effect → SaidValue
said_of effect = record { status = effect.status; text = effect.text }

-- the effect of writing these files and saying this, where this ledger is left
abbrev pub writes_and_says : Option Ledger → List (List ℕ × List ℕ) → SaidValue → Effect
writes_and_says ledger writes said =
    record { status = said.status; text = said.text; writes = writes; ledger = ledger }

-- the effect of saying this alone
abbrev pub says : Option Ledger → SaidValue → Effect
says ledger said = writes_and_says ledger [] said

-- what a command does that leaves the ledger: the names and whole texts of the files that it
-- writes, in order, and what it says then
pub record DeedValue : Type 0 where
  pub said : SaidValue
  pub writes : List (List ℕ × List ℕ)

-- it says this alone
abbrev pub only_says : SaidValue → DeedValue
only_says said = record { said = said; writes = [] }

-- it writes this file, and says this
abbrev pub writes_one : (name text : List ℕ) → SaidValue → DeedValue
writes_one name text said = record { said = said; writes = (name, text) ∷ [] }

-- its effect
abbrev pub does : Option Ledger → DeedValue → Effect
does ledger deed = writes_and_says ledger deed.writes deed.said

-- a command that came to its end has no status of one that was stopped
abbrev pub IsEnd : ℕ → Type 0
IsEnd status = (status ≢ 6) × (status ≢ 9)

-- nor that of words that are no command
abbrev pub IsCommandEnd : ℕ → Type 0
IsCommandEnd status = (status ≢ 2) × (status ≢ 6) × (status ≢ 9)

-- ---- what is left

-- the stores after all of the effect but its text
abbrev pub after : Effect → Stores → Stores
after effect old = record {
  files = option_map (written effect.writes) old.files;
  ledger = effect.ledger;
}

-- the text was printed
abbrev pub puts : List ℕ → Option (List ℕ) → Option (List ℕ)
puts text taken = option_map (λ before. before ++ text) taken

-- what is outside after the whole effect
abbrev pub done : Effect → Outside → Outside
done effect old = record {
  files = option_map (written effect.writes) old.files;
  ledger = effect.ledger;
  taken = puts effect.text old.taken;
}

-- ---- what is said

-- this was said: the status is its, and its text was put
abbrev pub IsSaid : SaidValue → ℕ → Option (List ℕ) → Option (List ℕ) → Type 0
IsSaid said status old new = (status ≡ said.status) × (new ≡ puts said.text old)
