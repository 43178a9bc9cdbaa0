-- The house from before auctions had a version and a reserve: the same table, over what was kept
-- then.
use Rattle.std.specs.Prelude.{ℕ, ◌-◌, List, [], ◌∷◌, ◌++◌, length, map, slice_index, codes, Option, None, unwrap_or}
use Rattle.vk_vickrey.specs.declared.outcomes.VickreyOutcome.{VickreyOutcome}
use Rattle.vk_vickrey.specs.declared.sales.Sale.{Sale}
use Rattle.vk_vickrey.specs.declared.sales.Sale.TheVariants.{Sold}
use Rattle.vk_vickrey.specs.VickreyPlans.{vickrey_plan, honest_values}
use Rattle.vk_lines.specs.Forms.{line, spaced}
use Rattle.vk_lines.specs.Tokens.{hex_text}
use Rattle.vk_board.specs.Texts.{counted_text}
use Rattle.vk_reply.specs.declared.challenge.Challenge.{Challenge}
use Rattle.vk_keeper.specs.declared.auction.FirstAuction.{FirstAuction}
use Rattle.vk_keeper.specs.declared.auction.Phase.TheVariants.{Taking}
use Rattle.vk_keeper.specs.Auctions.{seed_of}
use Rattle.vk_keeper.specs.First.{FirstLedger, lifted}
use Rattle.vk_keeper.specs.Joining.{held_refusal}
use Rattle.vk_job.specs.Outcome.{outcome_of}
use Rattle.vk_job.specs.Proofs.{ProofValue, source_of, first_dry_in, file_of, reply_in}
use Rattle.vk_house.specs.declared.standing.PhaseName.{PhaseName}
use Rattle.vk_house.specs.declared.standing.Standing.{Standing}
use Rattle.vk_house.specs.Commands.{HouseCommand}
use Rattle.vk_house.specs.Replies.{HouseReply, Done, Position, Work, Stands, Refused, phase_name}
use Rattle.vk_house.specs.Shaped as shaped

-- ---- what it made of an auction

-- the bids, in the order in which the seals were handed in
abbrev pub first_bids : FirstAuction → List ℕ
first_bids first = map (λ row. row.secret.bid) first.seals

-- who won, and at which price
abbrev pub first_outcome : FirstAuction → VickreyOutcome
first_outcome first = outcome_of (first_bids first)

-- what the board and the replies were made from with that seed
abbrev pub first_proof : FirstAuction → List ℕ → ProofValue
first_proof first seed =
    let outcome = first_outcome first in
    record {
      id = first.id;
      rows = first.seals;
      lanes = first.lanes;
      seed = seed;
      plan = vickrey_plan (length first.seals) first.width outcome.position outcome.price;
      values = honest_values (length first.seals) first.width outcome.position outcome.price
          (first_bids first);
    }

-- the seed that it kept
abbrev pub first_seed : FirstAuction → List ℕ
first_seed first = unwrap_or (seed_of first.phase) []

-- the seat that won: an auction without a reserve sold always
abbrev pub first_winner : FirstAuction → ℕ
first_winner first =
    slice_index (map (λ row. row.seal.seat) first.seals) ((first_outcome first).position - 1)

-- what stood on its board before the seals: seven lines, and none of a reserve
abbrev pub first_head_text : FirstAuction → List ℕ
first_head_text first =
    counted_text (codes "vickrey-board") 1
    ++ (line (spaced (codes "auction" ∷ hex_text first.id ∷ []))
    ++ (counted_text (codes "width") first.width
    ++ (counted_text (codes "lanes") first.lanes
    ++ (counted_text (codes "seals") (length first.seals)
    ++ (counted_text (codes "winner") (first_winner first)
    ++ counted_text (codes "price") (first_outcome first).price)))))

-- the file of its board
abbrev pub first_board : FirstAuction → List ℕ
first_board first = file_of (first_head_text first) (first_proof first (first_seed first))

-- the file of its reply to a challenge
abbrev pub first_reply : FirstAuction → Challenge → List ℕ
first_reply first challenge = reply_in (first_proof first (first_seed first)) challenge.bits

-- how it stood
pub record FirstStanding : Type 0 where
  pub width : ℕ
  pub lanes : ℕ
  pub seals : ℕ
  pub phase : PhaseName

-- ---- its step

-- the former house, which knew no reserve
abbrev pub first_auctions : shaped.HouseShape FirstAuction VickreyOutcome FirstStanding
first_auctions = record {
  opened = λ id width lanes. record {
    id = id;
    width = width;
    lanes = lanes;
    phase = Taking;
    seals = [];
  };
  reserved = λ id width lanes reserve. None;
  lanes = λ first. first.lanes;
  phase = λ first. first.phase;
  seals = λ first. first.seals;
  with_last = λ first row. record first { seals = first.seals ++ row ∷ [] };
  in_phase = λ first phase. record first { phase = phase };
  may_not_join = λ first. held_refusal first.id first.width first.lanes first.seals;
  dry = λ first seed. first_dry_in (source_of (first_proof first seed));
  sale = first_outcome;
  standing = λ first.
      record {
        width = first.width;
        lanes = first.lanes;
        seals = length first.seals;
        phase = phase_name first.phase;
      };
}

-- what it replied, and its step
abbrev pub FirstReply : Type 0
FirstReply = shaped.Reply FirstAuction VickreyOutcome FirstStanding

abbrev pub FirstStep : Type 0
FirstStep = shaped.Step FirstAuction VickreyOutcome FirstStanding

-- the step of a command by what stood under its id, and on a ledger
unfoldable pub first_step_at : HouseCommand → Option FirstAuction → FirstStep
first_step_at = shaped.step_at first_auctions

abbrev pub first_house_step : FirstLedger → HouseCommand → FirstReply × FirstLedger
first_house_step = shaped.stepped first_step_at

-- the replies to commands one after another, and the last ledger
abbrev pub first_house_steps : FirstLedger → List HouseCommand → List FirstReply × FirstLedger
first_house_steps = shaped.stepped_all first_house_step

-- ---- as the house of today says it

-- the outcome was a sale
abbrev pub lifted_outcome : VickreyOutcome → Sale
lifted_outcome outcome = Sold outcome.position outcome.price

-- no reserve was named
abbrev pub lifted_standing : FirstStanding → Standing
lifted_standing standing =
    record {
      width = standing.width;
      lanes = standing.lanes;
      seals = standing.seals;
      phase = standing.phase;
      reserve = None;
    }

abbrev pub lifted_reply : FirstReply → HouseReply
lifted_reply Done = Done
lifted_reply (Position position) = Position position
lifted_reply (Work first outcome) = Work (lifted first) (lifted_outcome outcome)
lifted_reply (Stands standing) = Stands (lifted_standing standing)
lifted_reply (Refused refusal) = Refused refusal
