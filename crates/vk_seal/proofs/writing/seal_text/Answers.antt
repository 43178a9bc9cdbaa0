use Rattle.std.proofs.Common.{append_assoc}
use Rattle.vk_seal.specs.Texts.{seal_text, lanes_text}
use Rattle.vk_seal.proofs.writing.seal_text.Goals as goal

pub returns : goal.returns
unfolding seal_text lanes_text
returns c =
    rw (
      c.in_ok-push_line.ensures,
      c.in_ok-push_digests_lines.ensures,
      c.as_slice.ensures,
      c.in_ok-push_number_line.ensures,
      c.len.ensures,
      c.in_ok-push_seat.ensures,
      c.new-text.ensures.items,
    )
    (simp append_assoc)
