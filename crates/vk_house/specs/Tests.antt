-- Why a house refuses a command: each test gives its refusal where it holds.
use Rattle.std.specs.Prelude.{ℕ, ◌==◌, not, List, length, Option, Some, None, option_map, option_and_then}
use Rattle.std.specs.Bool.{then_some, beq}
use Rattle.std.specs.Str.{bytes_eq}
use Rattle.std.specs.Cmp.Lexicographic.{pointwise}
use Rattle.vk_reply.specs.declared.challenge.Challenge.{Challenge}
use Rattle.vk_keeper.specs.declared.auction.Phase.{Phase}
use Rattle.vk_keeper.specs.declared.auction.Phase.TheVariants.{Taking, Proved, Answered}
use Rattle.vk_keeper.specs.declared.auction.SealRow.{SealRow}
use Rattle.vk_keeper.specs.declared.joining.Refusal.{Refusal}
use Rattle.vk_keeper.specs.declared.joining.Refusal.TheVariants as joining
use Rattle.vk_keeper.specs.Auctions.{seed_of, challenge_of}
use Rattle.vk_job.specs.Proofs.{Dry}
use Rattle.vk_house.specs.declared.errors.HouseErr.{HouseErr}
use Rattle.vk_house.specs.declared.errors.HouseErr.TheVariants as house
use Rattle.vk_house.specs.declared.standing.PhaseName.TheVariants as name

-- something stands under the id, or nothing does
abbrev pub known : {A : Type 0} → Option A → Option HouseErr
known None = None
known (Some auction) = Some house.Known

abbrev pub unknown : {A : Type 0} → Option A → Option HouseErr
unknown None = Some house.Unknown
unknown (Some auction) = None

-- seals are no longer taken, or they still are
abbrev pub not_taking : Phase → Option HouseErr
not_taking Taking = None
not_taking (Proved seed) = Some (house.Phase name.Proved)
not_taking (Answered seed challenge) = Some (house.Phase name.Answered)

abbrev pub still_taking : Phase → Option HouseErr
still_taking Taking = Some (house.Phase name.Taking)
still_taking (Proved seed) = None
still_taking (Answered seed challenge) = None

-- a seal may not join
abbrev pub house_err_of : Refusal → HouseErr
house_err_of joining.Full = house.Full
house_err_of (joining.OtherAuction given) = house.OtherAuction given
house_err_of joining.SeatTaken = house.SeatTaken
house_err_of (joining.Length kept given) = house.Length kept given
house_err_of joining.BidTooLarge = house.BidTooLarge
house_err_of (joining.Mismatch mismatch) = house.Mismatch mismatch

-- the challenge doesn't have a bit for each lane
abbrev pub other_length : Challenge → (lanes : ℕ) → Option HouseErr
other_length challenge lanes =
    then_some (not (length challenge.bits == lanes)) (house.Length lanes (length challenge.bits))

-- no seal is held
abbrev pub no_seals : List SealRow → Option HouseErr
no_seals seals = then_some (length seals == 0) house.NoSeals

-- another seed, or another challenge, is kept than the given one
abbrev pub other_seed : List ℕ → Phase → Option HouseErr
other_seed seed phase = option_and_then
    (λ kept. then_some (not (bytes_eq kept seed)) (house.OtherSeed kept)) (seed_of phase)

abbrev pub other_than : Challenge → Option Challenge → Option Challenge
other_than challenge kept = option_and_then
    (λ kept. then_some (not (pointwise beq kept.bits challenge.bits)) kept) kept

abbrev pub other_challenge : Challenge → Phase → Option HouseErr
other_challenge challenge phase =
    option_map house.OtherChallenge (other_than challenge (challenge_of phase))

-- the seed gives no tape; the first lane and wire
abbrev pub dry_seed : Option Dry → Option HouseErr
dry_seed dry = option_map (λ dry. house.DrySeed dry.lane dry.wire) dry
