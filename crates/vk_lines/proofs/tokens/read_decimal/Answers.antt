use Rattle.std.proofs.Common.{arith}
use Rattle.vk_lines.proofs.Decimals.{ReadsDecimal-decimal_of, within_most}
use Rattle.vk_lines.proofs.tokens.read_decimal.Goals as goal

pub returns-clause-exact : goal.returns-clause-exact
returns-clause-exact c = ReadsDecimal-decimal_of c.args.most c.args.text.now
    c.number_of-number.result (omega arith) c.number_of-number.ensures

pub returns-clause-within : goal.returns-clause-within
returns-clause-within c =
    within_most c.args.most c.args.text.now c.number_of-number.result
    (ReadsDecimal-decimal_of c.args.most c.args.text.now c.number_of-number.result (omega arith)
    c.number_of-number.ensures)
