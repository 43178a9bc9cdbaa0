-- The tape by which other values are shown as these values were.
use Rattle.std.specs.Prelude.{ℕ, Bool, true, false, not, ◌==◌, if◌then◌else◌, List, slice_index}
use Rattle.std.specs.Simd.Lanes.{zip2}
use Rattle.vk_residue.specs.Residue.{sum, difference}
use Rattle.vk_plan.specs.declared.wire.WireKind.{WireKind}
use Rattle.vk_plan.specs.declared.wire.WireKind.TheVariants.{Split, Pair}
use Rattle.vk_wire.specs.declared.wire.WireTape.{WireTape}
use Rattle.vk_prover.specs.Honest.{each_wire}

-- whether the entries of the wire are exchanged: those of a pair whose two values differ
abbrev pub is_turned : WireKind → ℕ → ℕ → Bool
is_turned Split value other = false
is_turned (Pair i) value other = not (value == other)

-- The tape of one wire: for bit 0 it stays. For bit 1 its mask is moved by the other value less the
-- value, its swap is turned where the entries are exchanged, and its keys stay.
abbrev pub moved_wire : WireKind → ℕ → ℕ → Bool → WireTape → WireTape
moved_wire kind value other false tape = tape
moved_wire kind value other true tape = record {
  mask = sum tape.mask (difference other value);
  swap = if is_turned kind value other then not tape.swap else tape.swap;
  first_key = tape.first_key;
  second_key = tape.second_key;
}

-- the tape of a lane, wire by wire
abbrev pub moved_tape : List WireKind → List ℕ → List ℕ → Bool → List WireTape → List WireTape
moved_tape kinds values others bit tape =
    each_wire (λ wire kind value own. moved_wire kind value (slice_index others wire) bit own) 0
    kinds values tape

-- the tapes of all lanes of a challenge
abbrev pub moved_tapes : List WireKind → List ℕ → List ℕ → List Bool → List (List WireTape)
    → List (List WireTape)
moved_tapes kinds values others bits tapes = zip2 (moved_tape kinds values others) bits tapes
