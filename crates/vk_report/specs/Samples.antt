-- The sample of a number: an auction with all its bids and seeds and with two challenges, made of
-- the number alone.
use Rattle.std.specs.Prelude.{◌≡◌, ◌≢◌, ◌⊎◌, ℕ, ◌+◌, ◌^◌, ◌<◌, ◌≤◌, ◌==◌, if◌then◌else◌, Bool, not, List, [], ◌∷◌, ◌++◌, length, map, slice_index, take, codes, All, AllPairs}
use Rattle.std.specs.Int.{w16, w32, w64, to_be_bytes, from_be_bytes}
use Rattle.std.specs.List.{range_with_len}
use Rattle.sha2.specs.Sha256.{sha256}
use Rattle.vk_residue.specs.Limits.{IsLaneCount, IsSize}
use Rattle.vk_commit.specs.Values.{AreBytes}
use Rattle.vk_reply.specs.Values.{IsChallenge}
use Rattle.vk_report.specs.Bits.{leading_bits}
use Rattle.vk_report.specs.declared.sample.SampleCase.{SampleCase}
use Rattle.vk_report.specs.declared.sample.Sizes.{Sizes}

-- ---- what a number gives

-- 13 bytes: four letters, a number (below 2^64) as 8 bytes big-endian, and a byte that tells what
-- is made of them
unfoldable pub message_of : List ℕ → ℕ → ℕ → List ℕ
message_of letters number byte = letters ++ to_be_bytes w64 number ++ byte ∷ []

-- their SHA-256 (FIPS 180-4)
unfoldable pub digest_at : List ℕ → ℕ → ℕ → List ℕ
digest_at letters number byte = sha256 (message_of letters number byte)

-- ---- which samples there are

-- letters that are hashed with the number, 1 to 48 seals, bids of 8, of 16 or of 32 bits, and lanes
pub record AreSizes (sizes : Sizes) : Type 0 where
  pub letters : length sizes.letters ≡ 4
  pub some_seal : 1 ≤ sizes.seals
  pub few_seals : sizes.seals ≤ 48
  pub width : (sizes.width ≡ 8) ⊎ (sizes.width ≡ 16) ⊎ (sizes.width ≡ 32)
  pub lanes : IsLaneCount sizes.lanes

-- those of an auction's sample: its letters are `VKS1`
abbrev pub auction_sizes : Sizes
auction_sizes = record { letters = codes "VKS1"; seals = 20; width = 32; lanes = 40 }

-- the first 16 bytes of a digest
abbrev pub id_of : Sizes → ℕ → List ℕ
id_of sizes number = take 16 (digest_at sizes.letters number 0)

-- ---- the seals, which count from 1

-- one for each of so many seals, that of seal 1 first
abbrev pub of_each_seal : {X : Type 0} → ℕ → (ℕ → X) → List X
of_each_seal seals of_seal = map of_seal (range_with_len 1 seals)

-- 101 for seal 1
abbrev pub seat_of : ℕ → ℕ
seat_of seal = 100 + seal

-- the seed of the bidder whose seal it is
abbrev pub bidder_seed : Sizes → ℕ → ℕ → List ℕ
bidder_seed sizes number seal = digest_at sizes.letters number (16 + seal)

-- the number of the first bytes of a digest, big-endian: of 1 where the width is 8, of 2 where it
-- is 16, and else of 4
abbrev pub front_number : ℕ → List ℕ → ℕ
front_number width digest =
    if width == 8 then slice_index digest 0 else if width == 16
    then from_be_bytes w16 (take 2 digest) else from_be_bytes w32 (take 4 digest)

unfoldable pub bid_of : Sizes → ℕ → ℕ → ℕ
bid_of sizes number seal = front_number sizes.width (digest_at sizes.letters number (64 + seal))

-- ---- the challenges

-- the first bits of a digest, one for each lane, that of lane 1 first
unfoldable pub first_bits : Sizes → ℕ → List Bool
first_bits sizes number = leading_bits sizes.lanes (digest_at sizes.letters number 2)

-- ---- the whole

-- what the number makes
unfoldable pub case_of : Sizes → ℕ → SampleCase
case_of sizes number = record {
  width = sizes.width;
  lanes = sizes.lanes;
  auction = id_of sizes number;
  seed = digest_at sizes.letters number 1;
  seats = of_each_seal sizes.seals seat_of;
  seeds = of_each_seal sizes.seals (bidder_seed sizes number);
  bids = of_each_seal sizes.seals (bid_of sizes number);
  first = record { bits = first_bits sizes number };
  second = record { bits = map not (first_bits sizes number) };
}

-- that of an auction
abbrev pub sample_of : ℕ → SampleCase
sample_of = case_of auction_sizes

-- an id and a seed; a seat, a bidder's seed and a bid for each seal, the seats from 101 on and all
-- different; and two challenges with a bit for each lane, the second with the other bit in each
pub record IsCase (case : SampleCase) : Type 0 where
  pub size : IsSize case.width case.lanes
  pub id : AreBytes 16 case.auction
  pub seed : AreBytes 32 case.seed
  pub some_seal : 1 ≤ length case.seats
  pub few_seals : length case.seats ≤ 48
  pub seats : All (λ seat. (101 ≤ seat) × (seat ≤ 100 + length case.seats)) case.seats
  pub seats_differ : AllPairs (λ earlier later. earlier ≢ later) case.seats
  pub seed_count : length case.seeds ≡ length case.seats
  pub seeds : All (AreBytes 32) case.seeds
  pub bid_count : length case.bids ≡ length case.seats
  pub bids : All (λ bid. bid < 2 ^ case.width) case.bids
  pub first : IsChallenge case.first
  pub first_count : length case.first.bits ≡ case.lanes
  pub second : IsChallenge case.second
  pub second_count : length case.second.bits ≡ case.lanes
  pub turned : case.second.bits ≡ map not case.first.bits

-- one of these sizes
pub record IsCaseOf (sizes : Sizes) (case : SampleCase) : Type 0 where
  pub right : IsCase case
  pub width_is : case.width ≡ sizes.width
  pub lanes_are : case.lanes ≡ sizes.lanes
  pub seals_are : length case.seats ≡ sizes.seals

-- that of an auction: 20 seals, bids below 2^32, and 40 lanes
abbrev pub IsSampleCase : SampleCase → Type 0
IsSampleCase = IsCaseOf auction_sizes
