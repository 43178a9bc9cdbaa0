use Rattle.vk_judge.proofs.FileForms.{only_accepted_give}
use Rattle.vk_verifier.specs.Refusals.{board_form}
use Rattle.vk_verifier.proofs.Verdicts.{is_form}
use Rattle.vk_verifier.proofs.two_laws.only_accepted_replies_are_found_to_be.Goals as goal

pub returns : goal.returns
returns c = only_accepted_give board_form is_form
