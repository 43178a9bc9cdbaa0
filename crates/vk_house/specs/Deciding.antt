-- What is decided of the auction that was found, before anything is kept.
use Rattle.std.specs.Prelude.{◌≡◌, ◌⊎◌, ℕ, List, Option, Some, None, IfSome, option_map, Result, Ok, Err}
use Rattle.vk_keeper.specs.declared.auction.Auction.{Auction}
use Rattle.vk_keeper.specs.declared.auction.Phase.{Phase}
use Rattle.vk_keeper.specs.Auctions.{IsAuction}
use Rattle.vk_keeper.specs.Ledgers.{Ledger}
use Rattle.vk_keeper.specs.Turns.{Turns, AfterPut}
use Rattle.vk_job.specs.Jobs.{dry_in, seed_in, sale_in}
use Rattle.vk_house.specs.declared.errors.HouseErr.{HouseErr}
use Rattle.vk_house.specs.declared.errors.HouseErr.TheVariants as house
use Rattle.vk_house.specs.declared.working.Decision.{Decision}
use Rattle.vk_house.specs.Replies.{Work}
use Rattle.vk_house.specs.Tests.{dry_seed}
use Rattle.vk_house.specs.Steps.{Step, ledger_after, refused, in_phase}
use Rattle.vk_house.specs.Answers.{work_of}

-- a decision on what stands under an id is the step, or want of memory
abbrev pub Decides : {T : Type 0} → (T → Step) → Result T HouseErr → Step → Type 0
Decides shown (Ok decided) step = shown decided ≡ step
Decides shown (Err house.NoMemory) step = Unit {0}
Decides shown (Err house.KeeperFailed) step = ⊥
Decides shown (Err refusal) step = refused refusal ≡ step

-- ---- what a call keeps

-- there was no call more of the keeper, or one, a `put`
abbrev pub MayPut : Turns → Turns → Type 0
MayPut old new = (new ≡ old) ⊎ AfterPut old new

-- ---- an auction that is to be proved or answered

-- the auction in that phase, or in its own
abbrev pub phased : Auction → Option Phase → Auction
phased auction None = auction
phased auction (Some phase) = in_phase auction phase

-- the seed that is kept gives no tape
abbrev pub own_dry : Auction → Option HouseErr
own_dry auction = dry_seed (dry_in auction (seed_in auction))

-- its step where nothing but its seed may refuse it
abbrev pub worked : Option HouseErr → Auction → Option Auction → Step
worked (Some refusal) auction kept = refused refusal
worked None auction kept = record { reply = Work auction (sale_in auction); kept = kept }

abbrev pub work_step : Auction → Option Phase → Step
work_step auction phase =
    let later = phased auction phase in
    worked (own_dry later) later (option_map (in_phase auction) phase)

-- a decision on what was found under an id: it is on that auction, and what is kept anew is the
-- auction that is answered of
pub record IsDecisionOn (id : List ℕ) (decision : Decision) : Type 0 where
  pub own : decision.job.auction.id ≡ id
  pub kept : IfSome decision.kept (λ auction. auction ≡ decision.job.auction)
  pub right : IfSome decision.kept IsAuction

-- what is answered and kept, as a step
abbrev pub step_of : Decision → Step
step_of decision = record { reply = work_of decision.job; kept = decision.kept }

-- the auction that is kept anew, if one is, stands under its id, and all other ids stay; refused,
-- nothing changed
abbrev pub KeepsAnew : {T E : Type 0} → Decision → Result T E → Ledger → Ledger → Type 0
KeepsAnew decision (Ok done) old new =
    new ≡ ledger_after old decision.job.auction.id decision.kept
KeepsAnew decision (Err refusal) old new = new ≡ old

-- ---- want of memory

-- nothing refuses a command but perhaps a dry seed
abbrev pub IsDryAtMost : Option HouseErr → Type 0
IsDryAtMost None = Unit {0}
IsDryAtMost (Some (house.DrySeed lane wire)) = Unit {0}
IsDryAtMost (Some refusal) = ⊥
