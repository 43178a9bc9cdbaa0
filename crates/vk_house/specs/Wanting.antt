-- Why a call of the house answers want of memory.
use Rattle.std.specs.Prelude.{◌≡◌, ℕ, List, Option, None, Result, Ok, Err}
use Rattle.vk_io.specs.declared.errors.OutsideErr.{OutsideErr}
use Rattle.vk_io.specs.declared.errors.OutsideErr.TheVariants.{Failed, NoMemory}
use Rattle.vk_keeper.specs.declared.auction.Auction.{Auction}
use Rattle.vk_house.specs.Commands.{HouseCommand, Answer, Show, id_of}
use Rattle.vk_house.specs.Refusals.{refusal_of}
use Rattle.vk_house.specs.Deciding.{IsDryAtMost}

-- by what stands under its id a command may want memory: where nothing refuses it, or an `answer`
-- but for a dry seed; `show` takes none
abbrev pub MayWant : HouseCommand → Option Auction → Type 0
MayWant (Answer id challenge) found = IsDryAtMost (refusal_of (Answer id challenge) found)
MayWant (Show id) found = ⊥
MayWant command found = refusal_of command found ≡ None

-- the keeper wanted memory when it was asked what stands under the id, or it answered that, and by
-- that the command may want some
abbrev pub WantsBy : HouseCommand → Result (Option Auction) OutsideErr → Type 0
WantsBy command (Ok found) = MayWant command found
WantsBy command (Err Failed) = ⊥
WantsBy command (Err NoMemory) = Unit {0}

-- the keeper was asked for the auction of the command, and by its answer memory was wanting. Of a
-- keeper of which nothing is known, only one that was asked shows what it may give
pub record WantsMemory {K : Type 0}
    (gives : K → List ℕ → Result (Option Auction) OutsideErr → K → Type 0)
    (command : HouseCommand) (old : K) : Type 0 where
  pub between : K
  pub answer : Result (Option Auction) OutsideErr
  pub gave : gives old (id_of command) answer between
  pub wants : WantsBy command answer
