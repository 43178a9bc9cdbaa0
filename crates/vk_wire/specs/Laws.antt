-- Laws of all wires.
use Rattle.std.specs.Prelude.{◌≡◌, ◌↔◌, ℕ, Bool, Ok, Err}
use Rattle.vk_residue.specs.Residue.{IsResidue}
use Rattle.vk_commit.specs.declared.place.Place.{Place}
use Rattle.vk_plan.specs.declared.wire.WireKind.{WireKind}
use Rattle.vk_plan.specs.Plans.{HasWeight, MayHave}
use Rattle.vk_wire.specs.declared.wire.WireCom.{WireCom}
use Rattle.vk_wire.specs.declared.wire.WireTape.{WireTape}
use Rattle.vk_wire.specs.declared.wire.Shown.{Shown}
use Rattle.vk_wire.specs.declared.wire.WireFault.{WireFault}
use Rattle.vk_wire.specs.Made.{made_com, shown_wire, half_of}
use Rattle.vk_wire.specs.Reads.{Reads, HasFault, read_of}
use Rattle.vk_wire.specs.Values.{IsCom, IsTape}

-- two halves that one shown wire gives are one
abbrev pub AtMostOneHalf : Type 0
AtMostOneHalf =
    (kind : WireKind) (place : Place) (digests : WireCom) (shown : Shown) (bit : Bool) (g h : ℕ)
    → HasWeight kind → Reads kind place digests shown bit g → Reads kind place digests shown bit h
    → g ≡ h

-- the computed reading is the half that is read, or the fault
abbrev pub ReadingComputes : Type 0
ReadingComputes =
    (kind : WireKind) (place : Place) (digests : WireCom) (shown : Shown) (bit : Bool)
    → HasWeight kind
    → ((h : ℕ) → (read_of kind place digests shown bit ≡ Ok h)
    ↔ Reads kind place digests shown bit h)
    × ((f : WireFault) → (read_of kind place digests shown bit ≡ Err f)
    ↔ HasFault kind place digests shown bit f)

-- an honest wire reads the half that the bit names
abbrev pub MadeWiresRead : Type 0
MadeWiresRead =
    (kind : WireKind) (place : Place) (value : ℕ) (tape : WireTape) (bit : Bool)
    → HasWeight kind → MayHave kind value → IsResidue value → IsTape tape
    → Reads kind place (made_com kind place value tape) (shown_wire kind value tape bit) bit
    (half_of value tape bit)

-- what an honest wire commits to are two digests
abbrev pub MadeComsAre : Type 0
MadeComsAre =
    (kind : WireKind) (place : Place) (value : ℕ) (tape : WireTape)
    → IsCom (made_com kind place value tape)
