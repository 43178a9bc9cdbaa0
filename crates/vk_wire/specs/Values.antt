-- Which commitments and tapes there are, and which wires can be made.
use Rattle.std.specs.Prelude.{◌≡◌, ◌%◌}
use Rattle.vk_residue.specs.Residue.{IsResidue}
use Rattle.vk_commit.specs.Values.{AreBytes}
use Rattle.vk_plan.specs.Plans.{HasWeight, MayHave}
use Rattle.vk_wire.specs.declared.wire.HonestWire.{HonestWire}
use Rattle.vk_wire.specs.declared.wire.WireCom.{WireCom}
use Rattle.vk_wire.specs.declared.wire.WireTape.{WireTape}

-- two digests
abbrev pub IsCom : WireCom → Type 0
IsCom digests = AreBytes 32 digests.first × AreBytes 32 digests.second

-- a residue and two keys of 32 bytes
pub record IsTape (tape : WireTape) : Type 0 where
  pub mask : IsResidue tape.mask
  pub first_key : AreBytes 32 tape.first_key
  pub second_key : AreBytes 32 tape.second_key

-- a wire with a value that its kind may have, whose second commitment has the slot after an even
-- one
pub record CanBeMade (wire : HonestWire) : Type 0 where
  pub weight : HasWeight wire.kind
  pub value : MayHave wire.kind wire.value
  pub slot : wire.place.slot % 2 ≡ 0
