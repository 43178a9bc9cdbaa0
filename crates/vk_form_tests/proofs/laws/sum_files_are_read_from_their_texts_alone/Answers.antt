use Rattle.vk_form_tests.proofs.Forms.{file_is_whole}
use Rattle.vk_form_tests.proofs.laws.sum_files_are_read_from_their_texts_alone.Goals as goal

pub returns : goal.returns
returns c = file_is_whole
