-- Honest replies are accepted.
use Rattle.std.proofs.Common.{◌≡◌, ℕ, ◌+◌, ◌<◌, ◌≤◌, Bool, List, [], length, drop, slice_index, slice_index_or, Ok, refl, sym, ap, subst, ◌∙◌, arith, rules, zero-add, take, get_or-take}
use Rattle.std.proofs.lemmas.Grind.{common_steps}
use Rattle.std.proofs.lemmas.Bool.Decides.{nat_tests}
use Rattle.std.proofs.lemmas.List.{get_or-map, length-map}
use Rattle.std.proofs.lemmas.Option.{get_or_from_slice_get}
use Rattle.vk_plan.specs.declared.wire.WireKind.TheVariants.{Split}
use Rattle.vk_plan.specs.Forms.{NamesBelow, no_row}
use Rattle.vk_plan.specs.Plans.{PlanValue, IsPlan, Holds}
use Rattle.vk_wire.specs.Laws.{MadeWiresRead}
use Rattle.vk_wire.specs.Made.{made_com, shown_wire, half_of}
use Rattle.vk_wire.specs.Places.{place_of_wire}
use Rattle.vk_wire.specs.Reads.{Reads}
use Rattle.vk_wire.specs.declared.wire.WireCom.{WireCom}
use Rattle.vk_wire.specs.declared.wire.WireTape.{WireTape}
use Rattle.vk_wire.specs.declared.wire.Shown.{Shown}
use Rattle.vk_row.specs.Rows.{HasSide}
use Rattle.vk_row.specs.Lanes.{HasCounts, IsAcceptedLane, OfWire, RowHolds, no_digests, nothing_shown}
use Rattle.vk_row.specs.LaneTests.{checked_lane}
use Rattle.vk_row.proofs.Whole.{accepted_ok}
use Rattle.vk_prover.specs.Honest.{each_wire, com_of, shown_of, honest_coms, honest_posted, honest_lane, honest_case, honest_reply, honest_halves, masks, posted_on, no_tape}
use Rattle.vk_prover.specs.Laws.{HonestLaneIsAccepted, AreChecked, ArePublished, InputIsSealed, InputsAreSealed, IsTapeOf, WhereHeld}
use Rattle.vk_prover.proofs.Wires.{get_or-each_wire, length-each_wire, drop-each_wire, inputs_within}
use Rattle.vk_prover.proofs.Halves.{row_has_side, length-honest_halves, get_or-honest_halves}

-- a lane of an honest prover: one seat for each input, values that hold for the plan, and a tape
-- for it
pub record IsHonest (plan : PlanValue) (seats : List ℕ) (values : List ℕ)
    (tape : List WireTape) : Type 0 where
  pub is_plan : IsPlan plan
  pub one_seat_each : length seats ≡ plan.inputs
  pub values_hold : Holds plan values
  pub tape_is : IsTapeOf plan tape

-- one wire
pub made_reads : MadeWiresRead
made_reads kind place value tape bit weight may small small_mask = search rules

-- one wire of an honest lane
wire_reads : (plan : PlanValue) (auction : List ℕ) (lane : ℕ) (seats values : List ℕ)
    (tape : List WireTape) (bit : Bool) (w : ℕ) → IsHonest plan seats values tape
    → w < length plan.kinds
    → OfWire Reads plan (honest_case plan auction lane seats values tape) bit
    (honest_reply plan.kinds values tape bit) w (slice_index (honest_halves values tape bit) w)
wire_reads plan auction lane seats values tape bit w honest lt =
    let same_values : length values ≡ length plan.kinds = honest.values_hold.one_each in
    let kind = slice_index_or plan.kinds w Split in
    let value = slice_index values w in
    let wire = slice_index_or tape w no_tape in
    let place = place_of_wire auction lane seats w in
    let number : 0 + w ≡ w = zero-add w in
    let coms_at : slice_index_or (honest_coms auction lane seats plan.kinds values tape) w
    no_digests ≡ made_com kind place value wire =
    get_or-each_wire (com_of auction lane seats) 0 plan.kinds values tape w no_digests lt
    same_values honest.tape_is.one_each
    ∙ ap (λ n. com_of auction lane seats n kind value wire) number in
    let shown_at : slice_index_or (honest_reply plan.kinds values tape bit) w nothing_shown
    ≡ shown_wire kind value wire bit =
    get_or-each_wire (shown_of bit) 0 plan.kinds values tape w nothing_shown lt same_values
    honest.tape_is.one_each in
    let half_at : slice_index (honest_halves values tape bit) w ≡ half_of value wire bit =
    get_or-honest_halves values tape bit w (same_values ∙ sym honest.tape_is.one_each)
    (omega (arith, honest.tape_is.one_each)) in
    let reads = made_reads kind place value wire bit (honest.is_plan.weights w Split lt)
    (honest.values_hold.pairs w lt)
    (honest.values_hold.residues w 0 (omega (arith, same_values)))
    (honest.tape_is.each w no_tape (omega (arith, honest.tape_is.one_each))) in
    let P : WireCom → Type 0 =
    λ digests. Reads kind place digests (shown_wire kind value wire bit) bit
    (half_of value wire bit) in
    let Q : Shown → Type 0 = λ shown.
    Reads kind place (slice_index_or (honest_coms auction lane seats plan.kinds values tape) w
    no_digests) shown bit (half_of value wire bit) in
    let R : ℕ → Type 0 = λ half.
    Reads kind place (slice_index_or (honest_coms auction lane seats plan.kinds values tape) w
    no_digests) (slice_index_or (honest_reply plan.kinds values tape bit) w nothing_shown) bit
    half in
    subst R (sym half_at) (subst Q (sym shown_at) (subst P (sym coms_at) reads))

-- one row of an honest lane
row_holds : (plan : PlanValue) (auction : List ℕ) (lane : ℕ) (seats values : List ℕ)
    (tape : List WireTape) (bit : Bool) (r : ℕ) → IsHonest plan seats values tape
    → r < length plan.rows
    → RowHolds plan (honest_case plan auction lane seats values tape) bit
    (honest_halves values tape bit) r
row_holds plan auction lane seats values tape bit r honest lt =
    let row = slice_index_or plan.rows r no_row in
    let names : NamesBelow (length tape) row.terms =
    λ k d inside. omega (
      arith,
      honest.is_plan.names r no_row lt k d inside,
      honest.tape_is.one_each,
    ) in
    let posted_at : slice_index (honest_posted plan.rows tape) r ≡ posted_on (masks tape) row =
    get_or-map (posted_on (masks tape)) plan.rows r no_row 0 lt in
    let P : ℕ → Type 0 = λ number. HasSide row bit (honest_halves values tape bit) number in
    subst P (sym posted_at)
    (row_has_side row values tape bit (honest.values_hold.one_each ∙ sym honest.tape_is.one_each)
    names honest.values_hold.residues honest.tape_is.each
    (honest.values_hold.zero_rows r no_row lt))

-- one seat, one commitment, one posted number and one shown for each
counts_are : (plan : PlanValue) (auction : List ℕ) (lane : ℕ) (seats values : List ℕ)
    (tape : List WireTape) (bit : Bool) → IsHonest plan seats values tape
    → HasCounts plan (honest_case plan auction lane seats values tape)
    (honest_reply plan.kinds values tape bit)
counts_are plan auction lane seats values tape bit honest = record {
  seats = honest.one_seat_each;
  coms = length-each_wire (com_of auction lane seats) 0 plan.kinds values tape
      honest.values_hold.one_each honest.tape_is.one_each;
  posted = length-map plan.rows (posted_on (masks tape));
  one_shown = length-each_wire (shown_of bit) 0 plan.kinds values tape honest.values_hold.one_each
      honest.tape_is.one_each;
}

-- the whole lane
pub honest_accepted : (plan : PlanValue) (auction : List ℕ) (lane : ℕ) (seats values : List ℕ)
    (tape : List WireTape) (bit : Bool) → IsHonest plan seats values tape
    → IsAcceptedLane plan (honest_case plan auction lane seats values tape) bit
    (honest_reply plan.kinds values tape bit) (honest_halves values tape bit)
honest_accepted plan auction lane seats values tape bit honest = record {
  counts = counts_are plan auction lane seats values tape bit honest;
  wires = record {
    one_each = length-honest_halves values tape bit
        (honest.values_hold.one_each ∙ sym honest.tape_is.one_each) ∙ honest.tape_is.one_each;
    each = λ w lt. wire_reads plan auction lane seats values tape bit w honest lt;
  };
  rows = λ r lt. row_holds plan auction lane seats values tape bit r honest lt;
}

pub honest_checked : (plan : PlanValue) (auction : List ℕ) (lane : ℕ) (seats values : List ℕ)
    (tape : List WireTape) (bit : Bool) → IsHonest plan seats values tape
    → checked_lane plan (honest_case plan auction lane seats values tape) bit
    (honest_reply plan.kinds values tape bit) ≡ Ok (honest_halves values tape bit)
honest_checked plan auction lane seats values tape bit honest =
    accepted_ok plan (honest_case plan auction lane seats values tape) bit
    (honest_reply plan.kinds values tape bit) (honest_halves values tape bit) honest.is_plan
    (honest_accepted plan auction lane seats values tape bit honest)

-- an input stands at its seat
place_at_seat : (auction : List ℕ) (lane : ℕ) (seats : List ℕ) (w : ℕ) → w < length seats
    → place_of_wire auction lane seats w
    ≡ record { auction = auction; seat = slice_index seats w; lane = lane; slot = 0 }
place_at_seat auction lane seats w lt = grind (arith, common_steps, nat_tests)

-- the commitments of an input
pub inputs_sealed : (plan : PlanValue) (auction : List ℕ) (lane : ℕ) (seats values : List ℕ)
    (tape : List WireTape) (input : ℕ) → IsHonest plan seats values tape → input < plan.inputs
    → InputIsSealed values plan values auction lane seats tape input
inputs_sealed plan auction lane seats values tape input honest lt =
    let few : plan.inputs ≤ length plan.kinds = inputs_within plan honest.is_plan in
    let number : 0 + input ≡ input = zero-add input in
    let value = slice_index values input in
    let wire = slice_index_or tape input no_tape in
    let split : slice_index_or plan.kinds input Split ≡ Split =
    get_or_from_slice_get plan.kinds input Split Split
    (honest.is_plan.inputs_are_split input lt) in
    get_or-each_wire (com_of auction lane seats) 0 plan.kinds values tape input no_digests
    (omega arith) honest.values_hold.one_each honest.tape_is.one_each
    ∙ ap (λ n. com_of auction lane seats n (slice_index_or plan.kinds input Split) value wire)
    number
    ∙ ap (λ kind. com_of auction lane seats input kind value wire) split
    ∙ ap (λ place. made_com Split place value wire)
    (place_at_seat auction lane seats input (omega (arith, honest.one_seat_each)))

-- a wire that has no seat stands at none
place_after : (auction : List ℕ) (lane : ℕ) (seats : List ℕ) (w : ℕ) → length seats ≤ w
    → place_of_wire auction lane seats w ≡ place_of_wire auction lane [] w
place_after auction lane seats w le = grind (arith, common_steps, nat_tests)

-- what is published of the wires after the inputs
pub coms_published : (plan : PlanValue) (auction : List ℕ) (lane : ℕ) (seats values : List ℕ)
    (tape : List WireTape) → IsHonest plan seats values tape
    → (honest_lane plan auction lane values tape).coms
    ≡ drop plan.inputs (honest_case plan auction lane seats values tape).coms
coms_published plan auction lane seats values tape honest =
    let number : 0 + plan.inputs ≡ plan.inputs = zero-add plan.inputs in
    let at = drop-each_wire (com_of auction lane seats) (com_of auction lane []) plan.inputs 0
    plan.kinds values tape honest.values_hold.one_each honest.tape_is.one_each
    (λ w kind value wire le. ap (λ place. made_com kind place value wire)
    (place_after auction lane seats w (omega (arith, honest.one_seat_each, le)))) in
    sym (at ∙ ap (λ n. each_wire (com_of auction lane []) n (drop plan.inputs plan.kinds)
    (drop plan.inputs values) (drop plan.inputs tape)) number)

-- values that hold for a plan make an honest lane
pub honest_lane_of : (plan : PlanValue) (seats values : List ℕ) (tape : List WireTape) → IsPlan plan
    → Holds plan values → length seats ≡ plan.inputs → IsTapeOf plan tape
    → IsHonest plan seats values tape
honest_lane_of plan seats values tape is_plan holds one_seat_each is =
    record { is_plan = is_plan; one_seat_each = one_seat_each; values_hold = holds; tape_is = is }

-- values that begin with the inputs have these in front
pub input_at : (inputs values : List ℕ) (n input : ℕ) → take n values ≡ inputs → input < n
    → slice_index values input ≡ slice_index inputs input
input_at inputs values n input begins lt = sym (get_or-take n values input 0 lt)
    ∙ ap (λ front. slice_index front input) begins

-- ---- wherever values hold for a plan

pub held_accepted : WhereHeld HonestLaneIsAccepted
held_accepted plan values is_plan holds auction lane seats tape bit one_seat_each is =
    honest_accepted plan auction lane seats values tape bit
    (honest_lane_of plan seats values tape is_plan holds one_seat_each is)

pub held_checked : WhereHeld AreChecked
held_checked plan values is_plan holds auction lane seats tape bit one_seat_each is =
    honest_checked plan auction lane seats values tape bit
    (honest_lane_of plan seats values tape is_plan holds one_seat_each is)

pub held_sealed : WhereHeld (λ plan values. InputsAreSealed values plan values)
held_sealed plan values is_plan holds auction lane seats tape input one_seat_each is lt =
    inputs_sealed plan auction lane seats values tape input
    (honest_lane_of plan seats values tape is_plan holds one_seat_each is) lt

pub held_published : WhereHeld ArePublished
held_published plan values is_plan holds auction lane seats tape one_seat_each is = (
  coms_published plan auction lane seats values tape
      (honest_lane_of plan seats values tape is_plan holds one_seat_each is),
  refl,
)
