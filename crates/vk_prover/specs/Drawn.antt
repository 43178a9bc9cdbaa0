-- The tape of a lane as it is drawn from words, after the tapes of the inputs.
use Rattle.std.specs.Prelude.{◌≡◌, ℕ, zero, suc, ◌+◌, List, Option, Some, None, Result, Ok, Err}
use Rattle.vk_dice.specs.Words.{later}
use Rattle.vk_dice.specs.Draws.{after_residue, drawn_bit, drawn_key}
use Rattle.vk_dice.specs.Many.{Drawing, with_residue, drawn_onto, after_draws}
use Rattle.vk_wire.specs.declared.wire.WireTape.{WireTape}
use Rattle.vk_prover.specs.declared.tape.LaneTape.{LaneTape}
use Rattle.vk_prover.specs.declared.tape.DrawErr.{DrawErr}
use Rattle.vk_prover.specs.declared.tape.DrawErr.TheVariants.{DrySeed, NoMemory}

-- the tape of a wire with that mask: a bit and two keys are drawn, in this order
abbrev pub wire_with : ℕ → (ℕ → ℕ) → WireTape
wire_with mask ahead = record {
  mask = mask;
  swap = drawn_bit ahead;
  first_key = drawn_key (later 1 ahead);
  second_key = drawn_key (later 4 (later 1 ahead));
}

-- the tape of a wire: a residue is drawn, and the rest after it; none where no residue can be drawn
abbrev pub drawn_wire : (ℕ → ℕ) → Option WireTape
drawn_wire ahead = with_residue wire_with ahead

-- the words ahead after that draw
abbrev pub after_wire : (ℕ → ℕ) → ℕ → ℕ
after_wire ahead = later 4 (later 4 (later 1 (after_residue ahead)))

-- the draw of a wire's tape; where no residue can be drawn, only the words looked at for it are
-- taken
abbrev pub wire_drawing : Drawing WireTape
wire_drawing = record { drawn = drawn_wire; after = after_wire; dry = after_residue }

-- the tapes of so many wires, one after another, after those before; or the number of the first
-- wire whose tape can't be drawn, counted from 0 with those before
abbrev pub drawn_tape : List WireTape → ℕ → (ℕ → ℕ) → Result (List WireTape) ℕ
drawn_tape before count ahead = drawn_onto wire_drawing before count ahead

-- a wire's number where it is dry, else the first of those after it
abbrev pub dry_else : ℕ → Option ℕ → Option WireTape → Option ℕ
dry_else wire later None = Some wire
dry_else wire later (Some tape) = later

-- the first of so many wires, counted on from that number, whose tape can't be drawn, if there is
-- one
unfoldable pub dry_wire : ℕ → ℕ → (ℕ → ℕ) → Option ℕ
dry_wire wire zero ahead = None
dry_wire wire (suc count) ahead =
    dry_else wire (dry_wire (wire + 1) count (after_wire ahead)) (drawn_wire ahead)

-- the words ahead after the tapes of so many wires; where one can't be drawn, those after the last
-- word that was looked at for the first such wire
abbrev pub after_wires : ℕ → (ℕ → ℕ) → ℕ → ℕ
after_wires count ahead = after_draws wire_drawing count ahead

-- the tape that was drawn, or the first wire whose tape can't be, unless it is want of memory
abbrev pub TapeAnswer : Result LaneTape DrawErr → Result (List WireTape) ℕ → Type 0
TapeAnswer (Ok tape) expected = expected ≡ Ok tape.wires
TapeAnswer (Err (DrySeed wire)) expected = expected ≡ Err wire
TapeAnswer (Err NoMemory) expected = Unit {0}

-- the words left are those after the tape, or after its first wire that is dry, unless it is want
-- of memory
abbrev pub TapeWords : Result LaneTape DrawErr → (ℕ → ℕ) → (ℕ → ℕ) → Type 0
TapeWords (Ok tape) left expected = left ≡ expected
TapeWords (Err (DrySeed wire)) left expected = left ≡ expected
TapeWords (Err NoMemory) left expected = Unit {0}
