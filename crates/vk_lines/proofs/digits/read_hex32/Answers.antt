use Rattle.std.proofs.Common.{rules}
use Rattle.vk_lines.proofs.Hexadecimal.{ReadsHex-hex_of}
use Rattle.vk_lines.proofs.digits.read_hex32.Goals as goal

pub returns-clause-exact : goal.returns-clause-exact
returns-clause-exact c = ReadsHex-hex_of 32 c.args.text.now c.then_some.result (search rules)
