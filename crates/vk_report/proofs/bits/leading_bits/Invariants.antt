use Rattle.std.proofs.Common.{◌≡◌, take, flat_map}
use Rattle.vk_report.specs.Bits.{bits_of}
use Rattle.vk_report.proofs.bits.leading_bits.Given as goal

-- the bits so far are those of the bytes so far
abbrev pub invariant-loop-byte : goal.invariant-loop-byte
invariant-loop-byte l = l.bits.items ≡ flat_map bits_of (take l.byte-index l.bytes)
