-- The auction of a sample: its seals are made with the bidders' seeds, and its board with the
-- auctioneer's.
use Rattle.std.specs.Prelude.{ℕ, zero, suc, ◌+◌, List, [], ◌∷◌, ◌++◌, length, slice_index, slice_index_or, Option, Some, None, Result, Ok, Err}
use Rattle.vk_residue.specs.Steps.{◌>>=◌}
use Rattle.vk_dice.specs.Stream.{word_at}
use Rattle.vk_seal.specs.declared.secret.Secret.{Secret}
use Rattle.vk_seal.specs.Made.{secret_of, seal_of}
use Rattle.vk_keeper.specs.declared.auction.Phase.TheVariants.{Proved}
use Rattle.vk_keeper.specs.declared.auction.SealRow.{SealRow}
use Rattle.vk_keeper.specs.declared.auction.Auction.{Auction}
use Rattle.vk_job.specs.declared.errors.JobErr.{JobErr}
use Rattle.vk_job.specs.declared.errors.JobErr.TheVariants as job
use Rattle.vk_job.specs.Proofs.{Dry}
use Rattle.vk_job.specs.Jobs.{dry_in}
use Rattle.vk_report.specs.declared.sample.SampleCase.{SampleCase}
use Rattle.vk_sample_parts.specs.declared.errors.SampleErr.{SampleErr}
use Rattle.vk_sample_parts.specs.declared.errors.SampleErr.TheVariants as refusal

-- ---- seeds that are dry

-- a bidder's seed gives no residue for the lane of that number; or the auctioneer's gives no tape
-- for a wire of a lane
pub data DrySeed : Type 0 where
  OfBidder : ℕ → DrySeed
  OfHouse : Dry → DrySeed

-- the one that a refusal tells. Want of memory tells none
abbrev pub dry_of : SampleErr → Option DrySeed
dry_of (refusal.DryBidder lane) = Some (OfBidder lane)
dry_of (refusal.DryHouse lane wire) = Some (OfHouse (record { lane = lane; wire = wire }))
dry_of refusal.NoMemory = None

-- why there is no job, as a refusal
abbrev pub of_job : JobErr → SampleErr
of_job (job.DrySeed lane wire) = refusal.DryHouse lane wire
of_job job.NoMemory = refusal.NoMemory

-- ---- seals, which count from 0

-- the secret of a seal: drawn for each lane from the words of the bidder's seed, in the stream of
-- the seat
abbrev pub secret_at : SampleCase → ℕ → Result Secret ℕ
secret_at sample index =
    secret_of (slice_index sample.bids index) (slice_index sample.seats index) sample.auction
    sample.lanes
    (word_at (slice_index_or sample.seeds index []) sample.auction
    (65536 + slice_index sample.seats index))

-- a secret with its seal; or the first lane that nothing can be drawn for
abbrev pub sealed : Result Secret ℕ → Result SealRow DrySeed
sealed (Ok secret) = Ok (record { seal = seal_of secret; secret = secret })
sealed (Err lane) = Err (OfBidder lane)

-- so many seals after those that were made
unfoldable pub rows_onto : SampleCase → List SealRow → ℕ → Result (List SealRow) DrySeed
rows_onto sample rows zero = Ok rows
rows_onto sample rows (suc more) =
    sealed (secret_at sample (length rows)) >>= λ row. rows_onto sample (rows ++ row ∷ []) more

-- ---- the whole

-- it is of version 1, which names no reserve, and is proved with the auctioneer's seed
abbrev pub auction_with : SampleCase → List SealRow → Auction
auction_with sample rows = record {
  id = sample.auction;
  version = 1;
  width = sample.width;
  lanes = sample.lanes;
  reserve = 0;
  phase = Proved sample.seed;
  seals = rows;
}

-- what is made where no tape is dry
abbrev pub unless_dry : {X : Type 0} → X → Option Dry → Result X DrySeed
unless_dry made None = Ok made
unless_dry made (Some dry) = Err (OfHouse dry)

abbrev pub auction_by : SampleCase → List SealRow → Result Auction DrySeed
auction_by sample rows = unless_dry (auction_with sample rows)
    (dry_in (auction_with sample rows) sample.seed)

-- the auction of a sample, or the first seed that is dry: of the bidders in the order of their
-- seals, then the auctioneer's
unfoldable pub auction_of : SampleCase → Result Auction DrySeed
auction_of sample = rows_onto sample [] (length sample.seats) >>= auction_by sample
