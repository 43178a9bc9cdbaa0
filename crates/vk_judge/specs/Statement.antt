-- What is to be shown lane by lane: of which auction, in how many lanes, of which seals, by which
-- circuit.
use Rattle.std.specs.Prelude.{◌≡◌, ℕ, List, [], length}
use Rattle.vk_residue.specs.Limits.{IsLaneCount}
use Rattle.vk_lines.specs.Forms.{EachAfter}
use Rattle.vk_plan.specs.Plans.{PlanValue, IsPlan}
use Rattle.vk_board.specs.declared.board.SealLines.{SealLines}
use Rattle.vk_board.specs.Values.{AreBytes, IsSealAfter}

-- the auction's id, how many lanes there are, the seals, and the circuit of each lane, whose inputs
-- the seals are
pub record StatementValue : Type 0 where
  pub auction : List ℕ
  pub lanes : ℕ
  pub seals : List SealLines
  pub plan : PlanValue

abbrev pub stated : List ℕ → ℕ → List SealLines → PlanValue → StatementValue
stated auction lanes seals plan =
    record { auction = auction; lanes = lanes; seals = seals; plan = plan }

-- an id of 16 bytes, 1 to 64 lanes, seals of so many lanes whose seats are all different, and a
-- plan with an input for each of them
pub record IsStatement (s : StatementValue) : Type 0 where
  pub id : AreBytes 16 s.auction
  pub count : IsLaneCount s.lanes
  pub seals : EachAfter (IsSealAfter s.lanes) [] s.seals
  pub inputs : s.plan.inputs ≡ length s.seals
  pub plan : IsPlan s.plan
