use Rattle.std.proofs.Common.{◌≡◌, drop}
use Rattle.vk_lines.proofs.Decimals.{decimal_after}
use Rattle.vk_lines.proofs.tokens.number_of.Given as goal

-- what is left of the text gives the number
abbrev pub invariant-loop-digit : goal.invariant-loop-digit
invariant-loop-digit l = decimal_after l.most l.number (drop l.digit-index l.text)
    ≡ decimal_after l.most 0 l.text
