use Rattle.vk_lines.proofs.Hexadecimal.{read_bytes}
use Rattle.vk_lines.proofs.tokens.read_id.Goals as goal

pub returns-clause-bytes : goal.returns-clause-bytes
returns-clause-bytes c = read_bytes 16 c.in_ok-field.field.now c.read_hex16-id.result
    c.read_hex16-id.ensures.exact
