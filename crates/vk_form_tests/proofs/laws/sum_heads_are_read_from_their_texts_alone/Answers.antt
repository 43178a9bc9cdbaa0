use Rattle.vk_form_tests.proofs.Forms.{head_is_part}
use Rattle.vk_form_tests.proofs.laws.sum_heads_are_read_from_their_texts_alone.Goals as goal

pub returns : goal.returns
returns c = head_is_part
