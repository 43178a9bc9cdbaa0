use Rattle.std.proofs.Common.{◌≡◌, ◌++◌, take, map}
use Rattle.vk_reply.specs.Texts.{bit_character}
use Rattle.vk_reply.proofs.tokens.push_bits.Given as goal

-- the characters so far are those of the bits so far
abbrev pub invariant-loop-bit : goal.invariant-loop-bit
invariant-loop-bit l = l.out.items ≡ l.fn.out.items ++ map bit_character (take l.bit-index l.bits)
