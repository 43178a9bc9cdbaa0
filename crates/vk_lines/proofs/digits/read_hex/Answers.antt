use Rattle.std.proofs.Common.{arith, length}
use Rattle.vk_lines.proofs.Hexadecimal.{hex_none_long, hex_by}
use Rattle.vk_lines.proofs.digits.read_hex.Goals as goal

pub returns-then-text-digits : goal.returns-then-text-digits
returns-then-text-digits c = hex_none_long (length c.args.bytes.now) c.args.text.now
    (λ same. absurd (omega arith))

pub returns : goal.returns
returns c =
    hex_by c.join_values.new.bytes c.args.text.now (length c.args.bytes.now)
    c.read_values-greatest.result (omega arith) (λ i. (c.type_inv.bytes i).fits)
    (λ small. c.join_values.ensures c.args.text.now (c.read_values-greatest.ensures.digits small))
    (λ great. c.read_values-greatest.ensures.none great (length c.args.bytes.now))
