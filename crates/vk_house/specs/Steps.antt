-- What a house does: the step of a command, and what a call may come to.
use Rattle.std.specs.Prelude.{◌≡◌, List, Option}
use Rattle.vk_vickrey.specs.declared.sales.Sale.{Sale}
use Rattle.vk_keeper.specs.declared.auction.Auction.{Auction}
use Rattle.vk_keeper.specs.Ledgers.{Ledger}
use Rattle.vk_house.specs.declared.errors.HouseErr.{HouseErr}
use Rattle.vk_house.specs.declared.errors.HouseErr.TheVariants.{KeeperFailed, NoMemory}
use Rattle.vk_house.specs.declared.standing.Standing.{Standing}
use Rattle.vk_house.specs.Commands.{HouseCommand}
use Rattle.vk_house.specs.Replies.{HouseReply, Refused, auctions}
use Rattle.vk_house.specs.Shaped as shaped
pub use Rattle.vk_house.specs.Replies.{in_phase}
pub use Rattle.vk_house.specs.Shaped.{phase_proved, phase_answered, ledger_after, refused}

-- the auction that a command which isn't refused keeps anew under its id, if it keeps one
abbrev pub kept_by : HouseCommand → Option Auction → Option Auction
kept_by = shaped.kept_by auctions

-- ---- a step

-- what comes of a command: its reply, and the auction that is kept anew under its id, if one is
abbrev pub Step : Type 0
Step = shaped.Step Auction Sale Standing

-- a command that is refused, or that keeps this
abbrev pub step_by : Option HouseErr → HouseCommand → Option Auction → Option Auction → Step
step_by = shaped.step_by auctions

-- the step of a command by what stands under its id
unfoldable pub step_at : HouseCommand → Option Auction → Step
step_at = shaped.step_at auctions

-- the step of a command on a ledger
abbrev pub house_step : Ledger → HouseCommand → HouseReply × Ledger
house_step = shaped.stepped step_at

-- the replies to commands one after another, and the last ledger
abbrev pub house_steps : Ledger → List HouseCommand → List HouseReply × Ledger
house_steps = shaped.stepped_all house_step

-- ---- a call

-- a call of the house: where the keeper fails or memory is wanting nothing changed, and every other
-- call is the step of its command
abbrev pub HouseCall : Ledger → HouseCommand → HouseReply → Ledger → Type 0
HouseCall old command (Refused KeeperFailed) new = new ≡ old
HouseCall old command (Refused NoMemory) new = new ≡ old
HouseCall old command reply new = house_step old command ≡ (reply, new)
