-- Claim files: what their lanes are to show is told by a kind, a number of inputs and numbers.
use Rattle.std.specs.Prelude.{◌≡◌, ℕ, ◌^◌, ◌<◌, ◌≤◌, List, length, Option, Some, None}
use Rattle.std.specs.List.{AllByRecursion}
use Rattle.vk_residue.specs.Limits.{IsLaneCount}
use Rattle.vk_plan.specs.Plans.{PlanValue}
use Rattle.vk_board.specs.declared.board.SealLines.{SealLines}
use Rattle.vk_board.specs.declared.board.LaneLines.{LaneLines}
use Rattle.vk_board.specs.Values.{AreBytes, AreSealsOf, Frame, IsLaneLines, Shape}
use Rattle.vk_judge.specs.Behind.{later_wires}
use Rattle.vk_claim.specs.declared.front.ClaimHead.{ClaimHead}
use Rattle.vk_words.specs.declared.claim.Kind.{Kind}
use Rattle.vk_claim.specs.declared.front.ClaimFront.{ClaimFront}

-- the numbers of a public part: 1 to 128 of them, each below 2^64
pub record AreNumbers (numbers : List ℕ) : Type 0 where
  pub some : 1 ≤ length numbers
  pub few : length numbers ≤ 128
  pub small : AllByRecursion (λ number. number < 2 ^ 64) numbers

-- the head of a claim file: the id of an auction, how many lanes there are, and the public part: a
-- kind, how many inputs there are, and the numbers
pub record IsClaimHead (head : ClaimHead) : Type 0 where
  pub id : AreBytes 16 head.auction
  pub lanes : IsLaneCount head.lanes
  pub some_input : 1 ≤ head.inputs
  pub few_inputs : head.inputs ≤ 512
  pub numbers : AreNumbers head.numbers

-- what stands before the first lane: a head, and a seal for each input, whose seats are all
-- different
pub record IsClaimFront (front : ClaimFront) : Type 0 where
  pub head : IsClaimHead front.head
  pub seals : AreSealsOf front.head.inputs front.head.lanes front.seals

-- ---- public parts

-- the plan of a public part, where it is admitted: by its kind, its number of inputs and its
-- numbers
abbrev pub Plans : Type 0
Plans = Kind → ℕ → List ℕ → Option PlanValue

-- what a public part claims of the values of its inputs
abbrev pub Claims : Type 1
Claims = Kind → ℕ → List ℕ → List ℕ → Type 0

-- that of the head's part
abbrev pub plan_for : Plans → ClaimHead → Option PlanValue
plan_for plans head = plans head.kind head.inputs head.numbers

abbrev pub claim_for : Claims → ClaimHead → List ℕ → Type 0
claim_for claims head values = claims head.kind head.inputs head.numbers values

-- ---- whole files

-- the shape of a lane of a plan; without a plan none is read
abbrev pub shape_with : Option PlanValue → Shape
shape_with (Some plan) = record { wires = later_wires plan; rows = length plan.rows }
shape_with None = record { wires = 0; rows = 0 }

abbrev pub shape_for : Plans → ClaimHead → Shape
shape_for plans head = shape_with (plan_for plans head)

-- what the head tells of what stands behind it, where it tells the shape of a lane
abbrev pub claim_frame : (ClaimHead → Shape) → ClaimHead → Frame
claim_frame shape head = record { seals = head.inputs; lanes = head.lanes; shape = shape head }

pub record ClaimFile : Type 0 where
  pub head : ClaimHead
  pub seals : List SealLines
  pub lanes : List LaneLines

-- a claim file whose head tells the shape of each of its lanes
pub record IsClaimFile (shape : ClaimHead → Shape) (file : ClaimFile) : Type 0 where
  pub head : IsClaimHead file.head
  pub seals : AreSealsOf file.head.inputs file.head.lanes file.seals
  pub count : length file.lanes ≡ file.head.lanes
  pub lanes : AllByRecursion (IsLaneLines (shape file.head).wires (shape file.head).rows) file.lanes
