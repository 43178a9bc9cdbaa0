-- What a call of the house does, over whatever keeper.
use Rattle.std.specs.Prelude.{◌≡◌, ℕ, List, Option, Result, OnErr, IsErrOf}
use Rattle.vk_io.specs.declared.errors.OutsideErr.{OutsideErr}
use Rattle.vk_io.specs.Faults.{Causes}
use Rattle.vk_keeper.specs.declared.auction.Auction.{Auction}
use Rattle.vk_keeper.specs.Ledgers.{Ledger}
use Rattle.vk_keeper.specs.Turns.{Turns, GetsOnce}
use Rattle.vk_house.specs.declared.errors.HouseErr.{HouseErr}
use Rattle.vk_house.specs.declared.errors.HouseErr.TheVariants.{KeeperFailed, NoMemory}
use Rattle.vk_house.specs.Answers.{MakesCall, MayReply, as_reply}
use Rattle.vk_house.specs.Commands.{HouseCommand}
use Rattle.vk_house.specs.Replies.{HouseReply}
use Rattle.vk_house.specs.Wanting.{WantsMemory}

-- the house was called with this command and gave this result, whose value is said as a reply. Of
-- its keeper there are the ledger, where it is modelled, the calls, the faults, and what a `get`
-- may give
pub record CallsHouse {K T : Type 0} (ledger_of : K → Option Ledger) (turns_of : K → Turns)
    (faults_of : K → ℕ) (gives : K → List ℕ → Result (Option Auction) OutsideErr → K → Type 0)
    (command : HouseCommand) (said : T → HouseReply) (result : Result T HouseErr) (old new : K)
    : Type 0 where
  -- a modelled ledger makes the step of the command; or the keeper failed or memory was wanting,
  -- and it is as before
  pub step : MakesCall command (as_reply said result) (ledger_of old) (ledger_of new)
  -- whatever is refused, the ledger is as before
  pub refused : OnErr result (ledger_of new ≡ ledger_of old)
  -- modelled or not, the reply is that of the step on some auction that may stand under the id, or
  -- on none there; but for a keeper that failed and for want of memory
  pub reply : MayReply command (as_reply said result)
  -- the keeper was asked by one `get`, and after it by at most one `put`
  pub turns : GetsOnce (turns_of old) (turns_of new)
  -- that the keeper failed is answered exactly where it met a fault
  pub causes : Causes KeeperFailed result (faults_of old) (faults_of new)
  -- want of memory is answered only where the keeper wanted some when it was asked, or gave what
  -- lets the command want some
  pub memory : IsErrOf result NoMemory → WantsMemory gives command old
