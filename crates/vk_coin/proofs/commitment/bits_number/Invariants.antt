use Rattle.std.proofs.Common.{◌≡◌, ◌+◌, ◌*◌, ◌^◌, ◌≤◌, drop}
use Rattle.vk_coin.specs.Shares.{weighed}
use Rattle.vk_coin.proofs.commitment.bits_number.Given as goal

-- the number so far, and what the bits that are left count
abbrev pub invariant-loop-bit : goal.invariant-loop-bit
invariant-loop-bit l = record {
  same : l.number + weighed l.weight (drop l.bit-index l.bits) ≡ weighed (2 ^ 63) l.bits;
  small : l.number + 2 * l.weight ≤ 2 ^ 64;
}
