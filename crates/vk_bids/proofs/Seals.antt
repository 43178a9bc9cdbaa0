-- The wires of the seals: the first of a lane, each of which shows a half that opens its seal.
use Rattle.std.proofs.Common.{◌≡◌, ℕ, ◌-◌, ◌*◌, ◌<◌, ◌≤◌, Bool, List, [], length, get_or, Some, refl, ap, subst, ◌∙◌, arith, length-append}
use Rattle.std.specs.Prelude.{slice_get, slice_index, slice_index_or, if◌then◌else◌}
use Rattle.std.proofs.lemmas.List.{length-map, get_or-map, get_or_append_left}
use Rattle.std.proofs.lemmas.Bool.{lt-ltb}
use Rattle.std.proofs.lemmas.Option.{slice_get-get_or, get_or_from_slice_get}
use Rattle.vk_commit.specs.declared.place.Place.{Place}
use Rattle.vk_commit.specs.declared.place.Opening.{Opening}
use Rattle.vk_plan.specs.declared.wire.WireKind.{WireKind}
use Rattle.vk_plan.specs.declared.wire.WireKind.TheVariants.{Split}
use Rattle.vk_wire.specs.Reads.{Reads, OpensEntry}
use Rattle.vk_wire.specs.declared.wire.WireCom.{WireCom}
use Rattle.vk_wire.specs.declared.wire.Shown.{Shown}
use Rattle.vk_wire.specs.declared.wire.Shown.TheVariants.{Half, Whole, Spent}
use Rattle.vk_row.specs.Lanes.{HasCounts, IsAcceptedLane, place_in, no_digests, nothing_shown}
use Rattle.vk_board.specs.declared.board.SealLines.{SealLines}
use Rattle.vk_board.specs.declared.board.LaneLines.{LaneLines}
use Rattle.vk_board.specs.Reading.{seats_of}
use Rattle.vk_judge.specs.Statement.{StatementValue, IsStatement}
use Rattle.vk_judge.specs.Behind.{case_of, input_coms}
use Rattle.vk_judge.proofs.Counts.{seals_have}
use Rattle.vk_bids.specs.Opening.{seal_place}

-- what a wire without a weight shows is a half
pub record IsHalf (place : Place) (digests : WireCom) (shown : Shown) (bit : Bool)
    (half : ℕ) : Type 0 where
  pub opening : Opening
  pub shown_is : shown ≡ Half opening
  pub opens : OpensEntry place digests bit opening
  pub value : opening.value ≡ half

split_half : (place : Place) (digests : WireCom) (shown : Shown) (bit : Bool) (half : ℕ)
    → Reads Split place digests shown bit half → IsHalf place digests shown bit half
split_half place digests (Half opening) bit half reads =
    record { opening = opening; shown_is = refl; opens = reads.0; value = reads.1 }
split_half place digests (Whole first second) bit half reads = absurd reads
split_half place digests (Spent second opening) bit half reads = absurd reads

-- there is something shown for each seal
pub seals_within : (s : StatementValue) (number : ℕ) (lines : LaneLines) (shown : List Shown)
    → HasCounts s.plan (case_of s number lines) shown → length s.seals ≤ length shown
seals_within s number lines shown counts =
    let inputs : length (input_coms (number - 1) s.seals) ≡ length s.seals = length-map s.seals _ in
    omega (
      arith,
      counts.coms,
      counts.one_shown,
      length-append (input_coms (number - 1) s.seals) lines.coms,
      inputs,
    )

pub no_seal : SealLines
no_seal = record { seat = 0; coms = [] }

-- what is shown of a seal in a lane is a half that opens it
pub record OpensHalf (s : StatementValue) (number index : ℕ) (shown : Shown) (bit : Bool)
    (half : ℕ) : Type 0 where
  pub seal : SealLines
  pub digests : WireCom
  pub on_board : slice_get s.seals index ≡ Some seal
  pub in_lane : slice_get seal.coms (number - 1) ≡ Some digests
  pub seat : slice_index (seats_of s.seals) index ≡ seal.seat
  pub is_half : IsHalf (seal_place s.auction seal.seat number 0) digests shown bit half

seal_stands : (s : StatementValue) (number index : ℕ) (lines : LaneLines) → index < length s.seals
    → place_in (case_of s number lines) index
    ≡ seal_place s.auction (get_or s.seals index no_seal).seat number 0
seal_stands s number index lines lt =
    let seats : length (seats_of s.seals) ≡ length s.seals = length-map s.seals _ in
    let at_seat : Place = seal_place s.auction (slice_index (seats_of s.seals) index) number 0 in
    let at_none : Place = record { auction = s.auction; seat = 0; lane = number; slot = 2 * index }
    in
    ap (λ b. if b then at_seat else at_none)
    (lt-ltb index (length (seats_of s.seals)) (omega arith))
    ∙ ap (λ seat. seal_place s.auction seat number 0)
    (get_or-map (λ (seal : SealLines). seal.seat) s.seals index no_seal 0 lt)

pub seal_commits : (s : StatementValue) (number index : ℕ) (lines : LaneLines) → index < length s.seals
    → slice_index_or (case_of s number lines).coms index no_digests
    ≡ get_or (get_or s.seals index no_seal).coms (number - 1) no_digests
seal_commits s number index lines lt =
    let inputs : length (input_coms (number - 1) s.seals) ≡ length s.seals = length-map s.seals _ in
    get_or_append_left (input_coms (number - 1) s.seals) lines.coms no_digests index (omega arith)
    ∙ get_or-map (λ (seal : SealLines). slice_index_or seal.coms (number - 1) no_digests) s.seals
    index no_seal no_digests lt

pub seal_opens : (s : StatementValue) (number index : ℕ) (lines : LaneLines) (bit : Bool)
    (shown : List Shown) (halves : List ℕ)
    → IsStatement s → 1 ≤ number → number ≤ s.lanes → index < length s.seals
    → IsAcceptedLane s.plan (case_of s number lines) bit shown halves
    → OpensHalf s number index (slice_index_or shown index nothing_shown) bit
    (slice_index halves index)
seal_opens s number index lines bit shown halves is some last lt accepted =
    let plan = s.plan in
    let seal = get_or s.seals index no_seal in
    let digests = get_or seal.coms (number - 1) no_digests in
    let has : number - 1 < length seal.coms =
    seals_have s (number - 1) is (omega arith) index no_seal lt in
    let seats : length (seats_of s.seals) ≡ length s.seals = length-map s.seals _ in
    let within : index < length plan.kinds =
    omega (arith, seals_within s number lines shown accepted.counts, accepted.counts.one_shown)
    in
    let split : slice_index_or plan.kinds index Split ≡ Split =
    get_or_from_slice_get plan.kinds index Split Split
    (is.plan.inputs_are_split index (omega (arith, accepted.counts.seats))) in
    let one = slice_index_or shown index nothing_shown in
    let half = slice_index halves index in
    let P : WireKind → Type 0 =
    λ kind. Reads kind (place_in (case_of s number lines) index)
    (slice_index_or (case_of s number lines).coms index no_digests) one bit half in
    let Q : Place → Type 0 = λ place.
    Reads Split place (slice_index_or (case_of s number lines).coms index no_digests) one bit
    half in
    let R : WireCom → Type 0 =
    λ com_digests. Reads Split (seal_place s.auction seal.seat number 0) com_digests one bit half in
    let reads = subst R (seal_commits s number index lines lt)
    (subst Q (seal_stands s number index lines lt)
    (subst P split (accepted.wires.each index within))) in
    record {
      seal = seal;
      digests = digests;
      on_board = slice_get-get_or s.seals index no_seal lt;
      in_lane = slice_get-get_or seal.coms (number - 1) no_digests has;
      seat = get_or-map (λ (seal : SealLines). seal.seat) s.seals index no_seal 0 lt;
      is_half = split_half (seal_place s.auction seal.seat number 0) digests one bit half reads;
    }
