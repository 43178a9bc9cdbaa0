use Rattle.std.proofs.Common.{◌≡◌, ◌==◌, take, map}
use Rattle.vk_reply.proofs.tokens.bits_of.Given as goal

-- the bits so far are those of the characters so far
abbrev pub invariant-loop-character : goal.invariant-loop-character
invariant-loop-character l = l.bits
    ≡ map (λ character. character == 49) (take l.character-index l.text)
