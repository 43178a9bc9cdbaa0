-- The value of one wire, from what is shown of it for both bits.
use Rattle.std.specs.Prelude.{ℕ, ◌^◌, ◌==◌, if◌then◌else◌}
use Rattle.vk_residue.specs.Residue.{sum, difference}
use Rattle.vk_plan.specs.declared.wire.WireKind.{WireKind}
use Rattle.vk_plan.specs.declared.wire.WireKind.TheVariants.{Split, Pair}
use Rattle.vk_wire.specs.declared.wire.Shown.{Shown}
use Rattle.vk_wire.specs.declared.wire.Shown.TheVariants.{Half, Whole, Spent}

-- the sum of both halves: of a pair the spent entry less the entry from which the other rises
abbrev pub wire_value : WireKind → Shown → Shown → ℕ
wire_value Split (Half first) (Half second) = sum first.value second.value
wire_value (Pair i) (Whole first second) (Spent _ opening) =
    if difference second.value first.value == 2 ^ i
    then difference opening.value first.value
    else difference opening.value second.value
wire_value _ _ _ = 0
