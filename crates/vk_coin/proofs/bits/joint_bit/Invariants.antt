use Rattle.std.proofs.Common.{◌≡◌, ◌∷◌, take, map}
use Rattle.vk_coin.specs.Bits.{bits_at, xor_of}
use Rattle.vk_coin.proofs.bits.joint_bit.Given as goal

-- the bit so far is that of the lists so far
abbrev pub invariant-loop-other : goal.invariant-loop-other
invariant-loop-other g l = l.joint
    ≡ xor_of (bits_at l.place (l.first ∷ map g.B.HasBits.bits_of (take l.other-index l.others)))
