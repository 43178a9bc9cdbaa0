-- What is done at the house, command by command.
use Rattle.std.specs.Prelude.{◌≡◌, ℕ, List, [], ◌∷◌, ◌++◌, map, Option, Some, None, IsTrue, IsFalse, ◌⊎◌}
use Rattle.std.specs.List.{flat_map}
use Rattle.vk_io.specs.Files.{Files}
use Rattle.vk_io.specs.Writing.{written, IsDivided}
use Rattle.vk_keeper.specs.Ledgers.{Ledger}
use Rattle.vk_house.specs.Commands.{HouseCommand}
use Rattle.vk_house.specs.Steps.{house_step}
use Rattle.vk_effect.specs.Effects.{Effect, Outside, SaidValue, puts, said_of}
use Rattle.vk_words.specs.Orders.{HouseWords}
use Rattle.vk_auctioneer.specs.Effects.{house_effect}
use Rattle.vk_auctioneer.specs.Lines.{reply_said}
use Rattle.vk_ceremony.specs.Ceremonies.{goes_on}

-- ---- one command

-- a command of the house that was done: the files and the ledger that it found, what it said, and
-- what it left
pub record HouseAct : Type 0 where
  pub order : HouseWords
  pub files : Files
  pub ledger : Ledger
  pub said : SaidValue
  pub left : Files
  pub kept : Ledger

-- it said and left what the effect of its words is, on what it found
pub record IsAct (act : HouseAct) : Type 0 where
  pub effect : Effect
  pub effect_is : house_effect (Some act.files) (Some act.ledger) act.order ≡ Some effect
  pub said_is : act.said ≡ said_of effect
  pub left_is : act.left ≡ written effect.writes act.files
  pub kept_is : effect.ledger ≡ Some act.kept

-- it is the house's step of what it asked, and says its reply
abbrev pub IsStepOf : HouseCommand → HouseAct → Type 0
IsStepOf command act = (act.kept ≡ (house_step act.ledger command).1)
    × (act.said ≡ reply_said command (house_step act.ledger command).0)

-- ---- one after another

-- these acts were done one after another, each on what the one before left, from these files and
-- this ledger to those
abbrev pub AreActs : List HouseAct → Files → Ledger → Files → Ledger → Type 0
AreActs [] files ledger left kept = (left ≡ files) × (kept ≡ ledger)
AreActs (act ∷ acts) files ledger left kept = (act.files ≡ files) × (act.ledger ≡ ledger)
    × IsAct act × AreActs acts act.left act.kept left kept

-- the next of these orders was stopped when the house had kept what it asked. Had it come to its
-- end, it were this act: the ledger is the one that the act keeps, and the files are divided at one
-- of those that it writes. Where its printing was stopped all of them are written
pub record StopsAct (act : HouseAct) (orders : List HouseWords) (files : Files) (ledger : Ledger)
    (left : Files) (kept : Ledger) : Type 0 where
  pub others : List HouseWords
  pub orders_are : orders ≡ act.order ∷ others
  pub files_are : act.files ≡ files
  pub ledger_is : act.ledger ≡ ledger
  pub is : IsAct act
  pub left_is : IsDivided is.effect.writes files left
  pub kept_is : kept ≡ act.kept

-- nothing more was left, or the next of these orders was stopped so
abbrev pub StopsAt : Option HouseAct → List HouseWords → Files → Ledger → Files → Ledger → Type 0
StopsAt None orders files ledger left kept = (left ≡ files) × (kept ≡ ledger)
StopsAt (Some act) orders files ledger left kept = StopsAct act orders files ledger left kept

-- the first of these orders were done, by these acts, and the later ones were not. After the acts
-- nothing more was left, or the next order was stopped at this act
pub record Performs (orders : List HouseWords) (files : Files) (ledger : Ledger)
    (acts : List HouseAct) (stop : Option HouseAct) (left : Files) (kept : Ledger) : Type 0 where
  pub later : List HouseWords
  pub orders_are : orders ≡ map (λ act. act.order) acts ++ later
  pub files_between : Files
  pub ledger_between : Ledger
  pub done : AreActs acts files ledger files_between ledger_between
  pub last : StopsAt stop later files_between ledger_between left kept

-- ---- as far as they came

-- some acts of these orders lead from these files and this ledger to what is held and kept, which
-- is modelled
pub record PerformsSome (orders : List HouseWords) (files : Files) (ledger : Ledger)
    (held : Option Files) (kept : Option Ledger) : Type 0 where
  pub acts : List HouseAct
  pub stop : Option HouseAct
  pub files_left : Files
  pub ledger_left : Ledger
  pub held_is : held ≡ Some files_left
  pub kept_is : kept ≡ Some ledger_left
  pub performs : Performs orders files ledger acts stop files_left ledger_left

-- the next order follows each act but the last. After the last no order is left, or its status is
-- one that none follows
abbrev pub GoOn : List HouseAct → List HouseWords → Type 0
GoOn [] later = later ≡ []
GoOn (act ∷ acts) later = (IsTrue (goes_on act.said.status) × GoOn acts later)
    ⊎ (IsFalse (goes_on act.said.status) × (acts ≡ []))

-- the acts of these orders were done to their end, and nothing was stopped: what they said was
-- printed, one after another, and then the closing text
pub record PerformsAll (orders : List HouseWords) (files : Files) (ledger : Ledger)
    (closing : List ℕ) (taken : Option (List ℕ)) (new : Outside) : Type 0 where
  pub acts : List HouseAct
  pub later : List HouseWords
  pub orders_are : orders ≡ map (λ act. act.order) acts ++ later
  pub followed : GoOn acts later
  pub files_left : Files
  pub ledger_left : Ledger
  pub done : AreActs acts files ledger files_left ledger_left
  pub held_is : new.files ≡ Some files_left
  pub kept_is : new.ledger ≡ Some ledger_left
  pub printed : new.taken ≡ puts (flat_map (λ act. act.said.text) acts ++ closing) taken
