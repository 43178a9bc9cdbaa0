-- What an honest wire commits to and shows.
use Rattle.std.specs.Prelude.{ℕ, ◌^◌, Bool, true, false, ◌==◌, if◌then◌else◌}
use Rattle.vk_residue.specs.Residue.{difference, negative}
use Rattle.vk_commit.specs.Commitment.{digest_of}
use Rattle.vk_commit.specs.declared.place.Place.{Place}
use Rattle.vk_commit.specs.declared.place.Opening.{Opening}
use Rattle.vk_plan.specs.declared.wire.WireKind.{WireKind}
use Rattle.vk_plan.specs.declared.wire.WireKind.TheVariants.{Split, Pair}
use Rattle.vk_wire.specs.declared.wire.WireCom.{WireCom}
use Rattle.vk_wire.specs.declared.wire.WireTape.{WireTape}
use Rattle.vk_wire.specs.declared.wire.Shown.{Shown}
use Rattle.vk_wire.specs.declared.wire.Shown.TheVariants.{Half, Whole, Spent}
use Rattle.vk_wire.specs.Places.{next_place}

-- the number that the first commitment holds
abbrev pub first_entry : WireKind → ℕ → WireTape → ℕ
first_entry Split value tape = tape.mask
first_entry (Pair i) value tape = if tape.swap then difference (2 ^ i) tape.mask
    else negative tape.mask

-- the number that the second commitment holds
abbrev pub second_entry : WireKind → ℕ → WireTape → ℕ
second_entry Split value tape = difference value tape.mask
second_entry (Pair i) value tape = if tape.swap then negative tape.mask
    else difference (2 ^ i) tape.mask

abbrev pub first_opening : WireKind → ℕ → WireTape → Opening
first_opening kind value tape = record { key = tape.first_key; value = first_entry kind value tape }

abbrev pub second_opening : WireKind → ℕ → WireTape → Opening
second_opening kind value tape =
    record { key = tape.second_key; value = second_entry kind value tape }

-- the commitments to both entries
abbrev pub made_com : WireKind → Place → ℕ → WireTape → WireCom
made_com kind place value tape = record {
  first = digest_of place (first_opening kind value tape);
  second = digest_of (next_place place) (second_opening kind value tape);
}

-- the spent entry is the one that is the value less the mask: whether that is the second
abbrev pub spends_second : WireKind → ℕ → WireTape → Bool
spends_second kind value tape = second_entry kind value tape == difference value tape.mask

-- what is shown for the bit
abbrev pub shown_wire : WireKind → ℕ → WireTape → Bool → Shown
shown_wire Split value tape false = Half (first_opening Split value tape)
shown_wire Split value tape true = Half (second_opening Split value tape)
shown_wire (Pair i) value tape false =
    Whole (first_opening (Pair i) value tape) (second_opening (Pair i) value tape)
shown_wire (Pair i) value tape true =
    if spends_second (Pair i) value tape
    then Spent true (second_opening (Pair i) value tape)
    else Spent false (first_opening (Pair i) value tape)

-- the half that the bit names: the mask, or the value less the mask
abbrev pub half_of : ℕ → WireTape → Bool → ℕ
half_of value tape false = tape.mask
half_of value tape true = difference value tape.mask
