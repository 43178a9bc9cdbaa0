use Rattle.std.proofs.Common.{arith}
use Rattle.std.proofs.lemmas.Grind.{common_steps}
use Rattle.vk_lines.proofs.Decimals.{decimal_of-starts, decimal_of-other}
use Rattle.vk_lines.proofs.tokens.number_of.Goals as goal

pub returns-then-not-starts_canonical : goal.returns-then-not-starts_canonical
returns-then-not-starts_canonical c = grind (arith, common_steps, decimal_of-other)

pub returns-in_err-number : goal.returns-in_err-number
returns-in_err-number c = grind (arith, common_steps, decimal_of-starts)

pub returns : goal.returns
returns c = grind (arith, common_steps, decimal_of-starts)
