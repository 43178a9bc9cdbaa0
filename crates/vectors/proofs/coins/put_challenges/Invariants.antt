use Rattle.std.proofs.Common.{map}
use Rattle.vk_coin.specs.Bits.{HaveBits}
use Rattle.vectors.proofs.coins.put_challenges.Given as goal

-- the lists so far have so many bits each
abbrev pub invariant-loop-place : goal.invariant-loop-place
invariant-loop-place l = HaveBits l.count (map (λ one. one.bits) l.all.items)
