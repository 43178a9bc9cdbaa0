use Rattle.std.proofs.Common.{◌≡◌, take, string_bytes}
use Rattle.vk_reply.specs.Texts.{bits_text}
use Rattle.vk_auctioneer.proofs.refusals.bits.Given as goal

-- the characters so far are those of the bits so far
abbrev pub invariant-loop-bit : goal.invariant-loop-bit
invariant-loop-bit l = string_bytes l.text ≡ bits_text (take l.bit-index l.fn.challenge.bits)
