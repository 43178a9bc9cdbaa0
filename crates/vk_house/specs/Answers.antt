-- What the calls answer, as replies.
use Rattle.std.specs.Prelude.{◌≡◌, Option, IfSome, Result, Ok, Err}
use Rattle.vk_io.specs.Files.{Modelled}
use Rattle.vk_keeper.specs.declared.auction.Auction.{Auction}
use Rattle.vk_keeper.specs.Ledgers.{Ledger, IsKeptUnder}
use Rattle.vk_job.specs.JobValues.{JobValue}
use Rattle.vk_job.specs.declared.errors.JobErr.{JobErr}
use Rattle.vk_job.specs.declared.errors.JobErr.TheVariants as job
use Rattle.vk_house.specs.declared.errors.HouseErr.{HouseErr}
use Rattle.vk_house.specs.declared.errors.HouseErr.TheVariants as house
use Rattle.vk_house.specs.Commands.{HouseCommand, id_of}
use Rattle.vk_house.specs.Replies.{HouseReply, Refused, Work}
use Rattle.vk_house.specs.Steps.{step_at, HouseCall}

-- a refusal of a job as one of the house
abbrev pub job_err_of : JobErr → HouseErr
job_err_of (job.DrySeed lane wire) = house.DrySeed lane wire
job_err_of job.NoMemory = house.NoMemory

-- the reply that an answer is
abbrev pub as_reply : {T : Type 0} → (T → HouseReply) → Result T HouseErr → HouseReply
as_reply said (Ok answer) = said answer
as_reply said (Err refusal) = Refused refusal

-- the work that a job is
abbrev pub work_of : JobValue → HouseReply
work_of job = Work job.auction job.sale

-- the ledger, where it is modelled, makes this call
abbrev pub MakesCall : HouseCommand → HouseReply → Option Ledger → Option Ledger → Type 0
MakesCall command reply old new =
    Modelled (λ before after. HouseCall before command reply after) old new

-- over a keeper that isn't modelled: the reply is that of the step on some auction that may stand
-- under the id, or on none there
abbrev pub StepsSomewhere : HouseCommand → HouseReply → Type 0
StepsSomewhere command reply =
    (found : Option Auction) × IfSome found (IsKeptUnder (id_of command))
    × ((step_at command found).reply ≡ reply)

abbrev pub MayReply : HouseCommand → HouseReply → Type 0
MayReply command (Refused house.KeeperFailed) = Unit {0}
MayReply command (Refused house.NoMemory) = Unit {0}
MayReply command reply = StepsSomewhere command reply
