-- What the parts of a command of the house answer.
use Rattle.std.specs.Prelude.{◌≡◌, ℕ, Option, Result, Ok, Err, ◌⊎◌, IfSome}
use Rattle.vk_io.specs.declared.errors.OutsideErr.{OutsideErr}
use Rattle.vk_io.specs.declared.errors.OutsideErr.TheVariants.{Failed}
use Rattle.vk_io.specs.Faults.{Causes}
use Rattle.vk_io.specs.Files.{Files, Modelled}
use Rattle.vk_io.specs.Writing.{WritesAll}
use Rattle.vk_keeper.specs.Ledgers.{Ledger}
use Rattle.vk_keeper.specs.Turns.{GetsOnce, Turns}
use Rattle.vk_house.specs.declared.errors.HouseErr.TheVariants.{KeeperFailed, NoMemory}
use Rattle.vk_house.specs.Commands.{HouseCommand}
use Rattle.vk_house.specs.Once.{KeepsAnswers}
use Rattle.vk_house.specs.Replies.{HouseReply, Refused}
use Rattle.vk_effect.specs.Effects.{Effect, SaidValue, stores}
use Rattle.vk_effect.specs.Ends.{Acts}
use Rattle.vk_auctioneer.specs.Effects.{Writes, on_ledger}
use Rattle.vk_auctioneer.specs.Lines.{reply_said}

-- a reply of the house, and not the failure of its keeper or want of memory
abbrev pub IsReply : HouseReply → Type 0
IsReply (Refused KeeperFailed) = ⊥
IsReply (Refused NoMemory) = ⊥
IsReply _ = Unit {0}

-- what is said is what the reply says
abbrev pub Says : HouseCommand → HouseReply → Result SaidValue OutsideErr → Type 0
Says command reply (Ok said) = IsReply reply × (said ≡ reply_said command reply)
Says command reply (Err stop) = Unit {0}

-- the files hold their texts; stopped, they are divided at one of them
abbrev pub Leaves : {T : Type 0} → Writes → Result T OutsideErr → Files → Files → Type 0
Leaves writes (Ok done) old new = WritesAll {E = OutsideErr} writes (Ok tt) old new
Leaves writes (Err stop) old new = WritesAll writes (Err stop) old new

-- the keeper was asked by one `get` and after it at most one `put`; or it wasn't asked
abbrev pub AsksOnce : Turns → Turns → Type 0
AsksOnce old new = (new ≡ old) ⊎ GetsOnce old new

-- a command that reads and writes no file asked a keeper, of which there are the ledger, where it
-- is modelled, the calls and the faults
pub record AsksAlone {K : Type 0} (ledger_of : K → Option Ledger) (turns_of : K → Turns)
    (faults_of : K → ℕ) (effect : Ledger → Effect) (answer : Result SaidValue OutsideErr)
    (old new : K) : Type 0 where
  -- whatever the files, it did its effect on the ledger
  pub acts : (files : Option Files) → IfSome (on_ledger effect (ledger_of old))
      (λ known. Acts answer known (stores files (ledger_of old)) (stores files (ledger_of new)))
  -- whatever its end, an auction that was answered is the same, and one that was proved has its
  -- seed and its seals
  pub once : Modelled KeepsAnswers (ledger_of old) (ledger_of new)
  -- the keeper was asked by one `get`, and after it by at most one `put`
  pub turns : GetsOnce (turns_of old) (turns_of new)
  -- the outside failed exactly where the keeper met a fault
  pub causes : Causes Failed answer (faults_of old) (faults_of new)
