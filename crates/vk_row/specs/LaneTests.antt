-- What definitions compute of a lane: its halves, or its first fault.
use Rattle.std.specs.Prelude.{◌≡◌, ◌⊎◌, ℕ, ◌+◌, ◌<◌, Bool, List, [], ◌∷◌, ◌++◌, length, drop, slice_index_or, Option, Some, None, Result, Ok, Err, IfOk, IfErr, if◌then◌else◌}
use Rattle.vk_residue.specs.Steps.{◌>>=◌}
use Rattle.vk_plan.specs.Plans.{PlanValue}
use Rattle.vk_plan.specs.declared.form.Form.{Form}
use Rattle.vk_plan.specs.declared.wire.WireKind.{WireKind}
use Rattle.vk_wire.specs.Opened.{opened_by}
use Rattle.vk_wire.specs.Reads.{read_of}
use Rattle.vk_wire.specs.declared.wire.WireCom.{WireCom}
use Rattle.vk_wire.specs.declared.wire.Opened.{Opened}
use Rattle.vk_wire.specs.declared.wire.Shown.{Shown}
use Rattle.vk_wire.specs.declared.wire.WireFault.{WireFault}
use Rattle.vk_row.specs.declared.case.LaneCase.{LaneCase}
use Rattle.vk_row.specs.declared.case.LaneFault.{LaneFault}
use Rattle.vk_row.specs.declared.case.LaneFault.TheVariants.{Wire, Row, NoMemory}
use Rattle.vk_row.specs.Rows.{has_side}
use Rattle.vk_row.specs.Lanes.{HasLaneFault, IsAcceptedLane, place_in, nothing_opened, nothing_shown}

-- a fault is that of the wire
abbrev pub at_wire : ℕ → Result ℕ WireFault → Result ℕ LaneFault
at_wire wire (Ok half) = Ok half
at_wire wire (Err fault) = Err (Wire wire fault)

-- the halves so far and those of the wires that are left, or the first wire that reads nothing
unfoldable pub halves_from : LaneCase → Bool → List ℕ → List WireKind → List WireCom → List Shown
    → Result (List ℕ) LaneFault
halves_from case bit halves (kind ∷ kinds) (digests ∷ coms) (shown ∷ others) = do
  half ← at_wire (length halves) (read_of kind (place_in case (length halves)) digests shown bit)
  halves_from case bit (halves ++ half ∷ []) kinds coms others
halves_from case bit halves _ _ _ = Ok halves

-- the same, where those are all the wires after the halves
abbrev pub halves_after : PlanValue → LaneCase → Bool → List Shown → List ℕ
    → Result (List ℕ) LaneFault
halves_after plan case bit shown halves =
    let wire = length halves in
    halves_from case bit halves (drop wire plan.kinds) (drop wire case.coms) (drop wire shown)

-- the digests are those of what four wires of the lane open, from that one on, as far as there are
-- so many
abbrev pub AreHashed : LaneCase → Bool → List Shown → ℕ → List Opened → Type 0
AreHashed case bit shown from opened =
    (k : ℕ) → k < 4 → from + k < length shown
    → slice_index_or opened k nothing_opened
    ≡ opened_by (place_in case (from + k)) (slice_index_or shown (from + k) nothing_shown) bit

-- the first row from that one on that the halves don't meet
unfoldable pub first_false_row : Bool → List ℕ → ℕ → List Form → List ℕ → Option ℕ
first_false_row bit halves row (form ∷ forms) (number ∷ numbers) =
    if has_side form bit halves number then first_false_row bit halves (row + 1) forms numbers
    else Some row
first_false_row bit halves row _ _ = None

abbrev pub judged : List ℕ → Option ℕ → Result (List ℕ) LaneFault
judged halves None = Ok halves
judged halves (Some row) = Err (Row row)

-- the halves of the lane, or its first fault
unfoldable pub checked_lane : PlanValue → LaneCase → Bool → List Shown → Result (List ℕ) LaneFault
checked_lane plan case bit shown = do
  halves ← halves_from case bit [] plan.kinds case.coms shown
  judged halves (first_false_row bit halves 0 plan.rows case.posted)

-- what is answered of what is shown of a lane, with the numbers of the answer: its halves, where it
-- is accepted, else its first fault, or that there was no memory
pub record JudgesLane {V : Type 0} (plan : PlanValue) (case : LaneCase) (bit : Bool)
    (shown : List Shown) (numbers : V → List ℕ) (result : Result V LaneFault) : Type 0 where
  pub accepted : IfOk result (λ halves. IsAcceptedLane plan case bit shown (numbers halves))
  pub refused : IfErr result
      (λ fault. (fault ≡ NoMemory) ⊎ HasLaneFault plan case bit shown fault)
  -- and as definitions compute it
  pub halves : IfOk result (λ halves. checked_lane plan case bit shown ≡ Ok (numbers halves))
  pub fault : IfErr result
      (λ fault. (fault ≡ NoMemory) ⊎ (checked_lane plan case bit shown ≡ Err fault))
