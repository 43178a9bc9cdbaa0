use Rattle.std.proofs.Common.{rules}
use Rattle.vk_lines.proofs.Hexadecimal.{ReadsHex-hex_of}
use Rattle.vk_lines.proofs.digits.read_hex16.Goals as goal

pub returns-clause-exact : goal.returns-clause-exact
returns-clause-exact c = ReadsHex-hex_of 16 c.args.text.now c.then_some.result (search rules)
