-- The laws of honest lanes: of values that hold for a plan, and of a tape for it.
use Rattle.std.specs.Prelude.{◌≡◌, ◌-◌, ◌<◌, ℕ, Bool, List, length, drop, slice_index, slice_index_or, Ok}
use Rattle.std.specs.List.{All}
use Rattle.vk_plan.specs.Plans.{PlanValue, IsPlan, Holds}
use Rattle.vk_plan.specs.declared.wire.WireKind.TheVariants.{Split}
use Rattle.vk_wire.specs.Made.{made_com}
use Rattle.vk_wire.specs.Values.{IsTape}
use Rattle.vk_wire.specs.declared.wire.WireTape.{WireTape}
use Rattle.vk_row.specs.Lanes.{IsAcceptedLane, no_digests}
use Rattle.vk_row.specs.LaneTests.{checked_lane}
use Rattle.vk_board.specs.Values.{IsLaneLines}
use Rattle.vk_reply.specs.Values.{AreShown}
use Rattle.vk_prover.specs.Honest.{honest_lane, honest_case, honest_reply, honest_halves, no_tape}

-- a tape for a plan: for each wire a residue and two keys
pub record IsTapeOf (plan : PlanValue) (tape : List WireTape) : Type 0 where
  pub one_each : length tape ≡ length plan.kinds
  pub each : All IsTape tape

-- a law of every plan and values that hold for it
abbrev pub WhereHeld : (PlanValue → List ℕ → Type 0) → Type 0
WhereHeld Law = (plan : PlanValue) (values : List ℕ) → IsPlan plan → Holds plan values
    → Law plan values

-- an honest reply to either bit is accepted, with the halves that the bit names
abbrev pub HonestLaneIsAccepted : PlanValue → List ℕ → Type 0
HonestLaneIsAccepted plan values =
    (auction : List ℕ) (lane : ℕ) (seats : List ℕ) (tape : List WireTape) (bit : Bool)
    → length seats ≡ plan.inputs → IsTapeOf plan tape
    → IsAcceptedLane plan (honest_case plan auction lane seats values tape) bit
    (honest_reply plan.kinds values tape bit) (honest_halves values tape bit)

-- and the check of the lane computes these halves
abbrev pub AreChecked : PlanValue → List ℕ → Type 0
AreChecked plan values =
    (auction : List ℕ) (lane : ℕ) (seats : List ℕ) (tape : List WireTape) (bit : Bool)
    → length seats ≡ plan.inputs → IsTapeOf plan tape
    → checked_lane plan (honest_case plan auction lane seats values tape) bit
    (honest_reply plan.kinds values tape bit) ≡ Ok (honest_halves values tape bit)

-- the commitments of an input are those of a split wire at its seat, with slot 0
abbrev pub InputIsSealed : List ℕ → PlanValue → List ℕ → List ℕ → ℕ → List ℕ → List WireTape → ℕ
    → Type 0
InputIsSealed inputs plan values auction lane seats tape input =
    slice_index_or (honest_case plan auction lane seats values tape).coms input no_digests
    ≡ made_com Split (record {
      auction = auction;
      seat = slice_index seats input;
      lane = lane;
      slot = 0;
    }) (slice_index inputs input) (slice_index_or tape input no_tape)

-- and so of each input
abbrev pub InputsAreSealed : List ℕ → PlanValue → List ℕ → Type 0
InputsAreSealed inputs plan values =
    (auction : List ℕ) (lane : ℕ) (seats : List ℕ) (tape : List WireTape) (input : ℕ)
    → length seats ≡ plan.inputs → IsTapeOf plan tape → input < plan.inputs
    → InputIsSealed inputs plan values auction lane seats tape input

-- what is published of a lane is what is public of it but for the inputs' commitments
abbrev pub ArePublished : PlanValue → List ℕ → Type 0
ArePublished plan values =
    (auction : List ℕ) (lane : ℕ) (seats : List ℕ) (tape : List WireTape)
    → length seats ≡ plan.inputs → IsTapeOf plan tape
    → ((honest_lane plan auction lane values tape).coms
    ≡ drop plan.inputs (honest_case plan auction lane seats values tape).coms)
    × ((honest_lane plan auction lane values tape).posted
    ≡ (honest_case plan auction lane seats values tape).posted)

-- what is published of a lane stands on a board: two digests for each wire after the inputs, and a
-- residue for each row
abbrev pub AreLines : PlanValue → List ℕ → Type 0
AreLines plan values =
    (auction : List ℕ) (lane : ℕ) (tape : List WireTape) → IsTapeOf plan tape
    → IsLaneLines (length plan.kinds - plan.inputs) (length plan.rows)
    (honest_lane plan auction lane values tape)

-- what is shown of a lane stands in a reply: for each wire what its kind and the bit ask for, with
-- keys and residues
abbrev pub AreOfForm : PlanValue → List ℕ → Type 0
AreOfForm plan values = (tape : List WireTape) (bit : Bool) → IsTapeOf plan tape
    → AreShown plan.kinds bit (honest_reply plan.kinds values tape bit)
