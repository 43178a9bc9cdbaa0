use Rattle.std.proofs.Common.{ap, arith, sym, ◌∙◌}
use Rattle.vk_lines.specs.Tokens.{hex_of}
use Rattle.vk_lines.proofs.Successive.{first_hex_none, first_hex_found}
use Rattle.vk_lines.proofs.tokens.next_hex32.Goals as goal

pub returns-then-text-le64-clause-value : goal.returns-then-text-le64-clause-value
returns-then-text-le64-clause-value c =
    first_hex_none c.args.text.now (λ long space. absurd (omega arith))

pub returns-then-more-ne32-clause-value : goal.returns-then-more-ne32-clause-value
returns-then-more-ne32-clause-value c =
    first_hex_none c.args.text.now
    (λ long space. absurd (c.if-more-ne32.true (rw c.split_at.ensures.back space)))

pub returns-in_err-bytes-clause-value : goal.returns-in_err-bytes-clause-value
returns-in_err-bytes-clause-value c =
    rw c.from_residual.ensures (first_hex_none c.args.text.now
    (λ long space. ap (hex_of 32) (sym c.split_at.ensures.front)
    ∙ sym c.in_err-bytes.ensures.value))

pub returns-clause-value : goal.returns-clause-value
returns-clause-value c =
    first_hex_found c.args.text.now c.in_ok-bytes.bytes c.split_at.result.0.now
    c.split_at.result.1.now c.split_at.ensures.front c.split_at.ensures.back
    (omega (arith, c.split_at.ensures.back_len)) (omega (arith, c.if-more-ne32.false))
    (sym c.in_ok-bytes.ensures.value)
