-- An auction whose seals are taken: its sale, and what its seed gives. Lanes count from 1.
use Rattle.std.specs.Prelude.{◌≡◌, ℕ, ◌-◌, List, [], length, map, option_map, slice_index, Option, None, Result, unwrap_or, IsSome}
use Rattle.vk_plan.specs.Plans.{PlanValue}
use Rattle.vk_wire.specs.declared.wire.WireTape.{WireTape}
use Rattle.vk_vickrey.specs.declared.sales.Sale.{Sale}
use Rattle.vk_vickrey.specs.BoardPlans.{BoardNumbers, board_numbers, board_plan, board_values}
use Rattle.vk_keeper.specs.declared.auction.Auction.{Auction}
use Rattle.vk_keeper.specs.Auctions.{IsAuction, seed_of}
use Rattle.vk_job.specs.Outcome.{sale_of, position_in}
use Rattle.vk_job.specs.Proofs.{ProofValue, Dry, source_of, given_in, drawn_in, first_dry_from, first_dry_in, lane_tape_in, IsFirstDryIn}

-- ---- the sale

-- the bids and the seats, in the order in which the seals were handed in
abbrev pub bids_of : Auction → List ℕ
bids_of auction = map (λ row. row.secret.bid) auction.seals

abbrev pub seats_of : Auction → List ℕ
seats_of auction = map (λ row. row.seal.seat) auction.seals

-- who wins, and at which price, or that nothing is sold
abbrev pub sale_in : Auction → Sale
sale_in auction = sale_of (bids_of auction) auction.reserve

-- the seat that wins, none where nothing is sold
abbrev pub winner_of : Auction → Option ℕ
winner_of auction = option_map (λ position. slice_index (seats_of auction) (position - 1))
    (position_in (sale_in auction))

-- the numbers that its board publishes
abbrev pub numbers_in : Auction → BoardNumbers
numbers_in auction = board_numbers auction.version (length auction.seals) auction.width
    auction.reserve (sale_in auction)

-- the circuit that shows the sale, and the values of its wires
unfoldable pub plan_of : Auction → PlanValue
plan_of auction = board_plan (numbers_in auction)

unfoldable pub values_of : Auction → List ℕ
values_of auction = board_values (numbers_in auction) (bids_of auction)

-- ---- the proof

-- what the auction's proof is made from with that seed
abbrev pub proof_with : Auction → List ℕ → ProofValue
proof_with auction seed = record {
  id = auction.id;
  rows = auction.seals;
  lanes = auction.lanes;
  seed = seed;
  plan = plan_of auction;
  values = values_of auction;
}

-- with the seed that is kept
abbrev pub seed_in : Auction → List ℕ
seed_in auction = unwrap_or (seed_of auction.phase) []

abbrev pub proof_of : Auction → ProofValue
proof_of auction = proof_with auction (seed_in auction)

-- ---- its tapes

-- the tapes of the inputs in a lane
abbrev pub given_tapes : Auction → ℕ → List WireTape
given_tapes auction lane = given_in auction.seals lane

-- the tape of a lane, or the first wire whose tape can't be drawn
abbrev pub tape_of : Auction → List ℕ → ℕ → Result (List WireTape) ℕ
tape_of auction seed lane = drawn_in (source_of (proof_with auction seed)) lane

-- the first wire that is dry, in the first such lane of so many from that one on
abbrev pub dry_from : Auction → List ℕ → ℕ → ℕ → Option Dry
dry_from auction seed lane count = first_dry_from (source_of (proof_with auction seed)) lane count

-- the first in the auction, if there is one
abbrev pub dry_in : Auction → List ℕ → Option Dry
dry_in auction seed = first_dry_in (source_of (proof_with auction seed))

-- this lane is dry at that wire, and those before it have tapes
abbrev pub IsFirstDry : Auction → List ℕ → Dry → Type 0
IsFirstDry auction seed dry = IsFirstDryIn (source_of (proof_with auction seed)) dry

-- ---- auctions that are proved

-- an auction in a phase that has a seed, and the seed gives a tape for every lane
pub record IsProvedAuction (auction : Auction) : Type 0 where
  pub right : IsAuction auction
  pub seeded : IsSome (seed_of auction.phase)
  pub tapes : dry_in auction (seed_in auction) ≡ None

-- its tape of a lane
abbrev pub lane_tape : Auction → ℕ → List WireTape
lane_tape auction lane = lane_tape_in (proof_of auction) lane
