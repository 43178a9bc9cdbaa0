-- The first entry of a lane that is opened to two values.
use Rattle.std.specs.Prelude.{ℕ, ◌+◌, Bool, true, false, ◌==◌, List, ◌∷◌, Option, Some, None, if◌then◌else◌}
use Rattle.vk_commit.specs.Commitment.{TwoOpeningsSeen}
use Rattle.vk_commit.specs.declared.place.Opening.{Opening}
use Rattle.vk_wire.specs.Places.{entry_place}
use Rattle.vk_wire.specs.Reads.{entry_digest}
use Rattle.vk_wire.specs.declared.wire.WireCom.{WireCom}
use Rattle.vk_wire.specs.declared.wire.Shown.{Shown}
use Rattle.vk_wire.specs.declared.wire.Shown.TheVariants.{Whole, Spent}
use Rattle.vk_row.specs.declared.case.LaneCase.{LaneCase}
use Rattle.vk_row.specs.Lanes.{place_in}

-- the first or the second of two openings
abbrev pub entry_opening : Bool → Opening → Opening → Opening
entry_opening false first second = first
entry_opening true first second = second

-- the openings of the spent entry of that wire for bit 0 and for bit 1, where their values differ
abbrev pub clash_at : LaneCase → ℕ → WireCom → Shown → Shown → Option TwoOpeningsSeen
clash_at case wire digests (Whole first second) (Spent of_second opening) =
    let whole = entry_opening of_second first second in
    let two : TwoOpeningsSeen = record {
      place = entry_place (place_in case wire) of_second;
      digest = entry_digest digests of_second;
      first = whole;
      second = opening;
    } in
    if whole.value == opening.value then None else Some two
clash_at case wire digests _ _ = None

abbrev pub or_else : Option TwoOpeningsSeen → Option TwoOpeningsSeen → Option TwoOpeningsSeen
or_else (Some two) later = Some two
or_else None later = later

-- the first of the wires from that one on
unfoldable pub clash_from : LaneCase → ℕ → List WireCom → List Shown → List Shown
    → Option TwoOpeningsSeen
clash_from case wire (digests ∷ coms) (zero ∷ zeros) (one ∷ ones) =
    or_else (clash_at case wire digests zero one) (clash_from case (wire + 1) coms zeros ones)
clash_from case wire _ _ _ = None

-- the first of the lane's wires whose spent entry has another value for bit 1 than for bit 0: the
-- entry's place and digest, and both openings, that of bit 0 first
abbrev pub clash_of_lane : LaneCase → List Shown → List Shown → Option TwoOpeningsSeen
clash_of_lane case zero one = clash_from case 0 case.coms zero one
