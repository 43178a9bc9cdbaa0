use Rattle.std.proofs.Common.{◌≡◌, map, not, take}
use Rattle.vk_report.proofs.sample.other_bits.Given as goal

-- the bits so far are the others of those so far
abbrev pub invariant-loop-bit : goal.invariant-loop-bit
invariant-loop-bit l = l.others ≡ map not (take l.bit-index l.bits)
