use Rattle.vk_judge.specs.Opened.{file_coming}
use Rattle.vk_judge.proofs.FileForms.{finds_by_both}
use Rattle.vk_judge.proofs.HeldFiles.{are_of_held}
use Rattle.vk_verifier.specs.Verdicts.{board_front_at}
use Rattle.vk_verifier.proofs.two_laws.a_finding_is_by_both_verdicts.Goals as goal

pub returns : goal.returns
returns c = record {
  found = finds_by_both board_front_at;
  files = are_of_held (file_coming board_front_at);
}
