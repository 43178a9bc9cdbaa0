-- What drawing the tapes of all lanes answers, and making a job.
use Rattle.std.specs.Prelude.{◌≡◌, List, Option, Some, None, Result, Ok, Err}
use Rattle.vk_prover.specs.declared.tape.LaneTape.{LaneTape}
use Rattle.vk_keeper.specs.declared.auction.Auction.{Auction}
use Rattle.vk_job.specs.Proofs.{Dry, TapeSource, first_dry_in, tapes_in}
use Rattle.vk_job.specs.Jobs.{IsProvedAuction, dry_in, sale_in, seed_in}
use Rattle.vk_job.specs.JobValues.{JobValue}
use Rattle.vk_job.specs.declared.errors.JobErr.{JobErr}
use Rattle.vk_job.specs.declared.errors.JobErr.TheVariants.{DrySeed, NoMemory}

-- the refusal of a seed for the first wire that is dry, if there is one
abbrev pub dry_refusal : Option Dry → Result Unit JobErr
dry_refusal None = Ok tt
dry_refusal (Some dry) = Err (DrySeed dry.lane dry.wire)

-- the tapes of all lanes, or the first wire that is dry; this where memory is refused
abbrev pub TapesOr : Type 0 → Result (List LaneTape) JobErr → TapeSource → Type 0
TapesOr Refused (Ok tapes) source = (tapes ≡ tapes_in source) × (first_dry_in source ≡ None)
TapesOr Refused (Err (DrySeed lane wire)) source =
    first_dry_in source ≡ Some (record { lane = lane; wire = wire })
TapesOr Refused (Err NoMemory) source = Refused

-- want of memory is told only where none is dry
abbrev pub TapesAnswer : Result (List LaneTape) JobErr → TapeSource → Type 0
TapesAnswer result source = TapesOr (first_dry_in source ≡ None) result source

-- the job of the auction, which is proved, or the first wire that is dry in it; want of memory is
-- told only where none is dry
abbrev pub JobAnswer : Result JobValue JobErr → Auction → Type 0
JobAnswer (Ok job) auction = (job ≡ record { auction = auction; sale = sale_in auction })
    × IsProvedAuction auction
JobAnswer (Err (DrySeed lane wire)) auction =
    dry_in auction (seed_in auction) ≡ Some (record { lane = lane; wire = wire })
JobAnswer (Err NoMemory) auction = dry_in auction (seed_in auction) ≡ None
