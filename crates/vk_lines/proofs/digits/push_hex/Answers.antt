use Rattle.std.proofs.Common.{arith, append_assoc}
use Rattle.std.proofs.lemmas.Grind.{common_steps}
use Rattle.vk_lines.proofs.Hexadecimal.{hex_text_more, hex_text_none}
use Rattle.vk_lines.proofs.digits.push_hex.Goals as goal

pub loop-written-init : goal.loop-written-init
loop-written-init c = grind (arith, common_steps, hex_text_none)

pub loop-written-preserved : goal.loop-written-preserved
loop-written-preserved c = grind (arith, common_steps, hex_text_more, append_assoc)
