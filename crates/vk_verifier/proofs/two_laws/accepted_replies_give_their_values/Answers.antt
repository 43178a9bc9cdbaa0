use Rattle.vk_judge.proofs.FileForms.{accepted_give}
use Rattle.vk_verifier.specs.Refusals.{board_form}
use Rattle.vk_verifier.proofs.Verdicts.{is_form}
use Rattle.vk_verifier.proofs.two_laws.accepted_replies_give_their_values.Goals as goal

pub returns : goal.returns
returns c = accepted_give board_form is_form
