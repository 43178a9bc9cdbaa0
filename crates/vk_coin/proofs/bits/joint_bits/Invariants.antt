use Rattle.std.proofs.Common.{◌≡◌, ◌∷◌, map}
use Rattle.std.specs.List.{range_with_len}
use Rattle.vk_coin.specs.Bits.{bits_at, xor_of}
use Rattle.vk_coin.proofs.bits.joint_bits.Given as goal

-- the bits so far are those of the places so far
abbrev pub invariant-loop-place : goal.invariant-loop-place
invariant-loop-place g l = l.joint.items
    ≡ map (λ place. xor_of (bits_at place (l.first ∷ map g.B.HasBits.bits_of l.others)))
    (range_with_len 0 l.place)
