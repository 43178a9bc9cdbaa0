-- Where the two commitments of a wire stand.
use Rattle.std.specs.Prelude.{ℕ, ◌+◌, ◌*◌, Bool, true, false, List, length, slice_index, nat_lt, if◌then◌else◌}
use Rattle.vk_commit.specs.declared.place.Place.{Place}

-- the first commitment of a wire: an input's at its seat with slot 0, any other's at seat 0
abbrev pub place_of_wire : List ℕ → ℕ → List ℕ → ℕ → Place
place_of_wire auction lane seats wire =
    let at_seat : Place = record {
      auction = auction;
      seat = slice_index seats wire;
      lane = lane;
      slot = 0;
    } in
    let at_no_seat : Place = record { auction = auction; seat = 0; lane = lane; slot = 2 * wire } in
    if nat_lt wire (length seats) then at_seat else at_no_seat

-- the second commitment of the same wire
abbrev pub next_place : Place → Place
next_place place = record place { slot = place.slot + 1 }

-- the place of the entry that the bit names
abbrev pub entry_place : Place → Bool → Place
entry_place place false = place
entry_place place true = next_place place
