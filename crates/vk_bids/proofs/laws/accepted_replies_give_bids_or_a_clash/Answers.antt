use Rattle.vk_verifier.specs.Refusals.{board_form}
use Rattle.vk_verifier.proofs.Verdicts.{is_form}
use Rattle.vk_bids.proofs.Boards.{accepted_are_extracted, only_accepted_are_extracted, same_is_found}
use Rattle.vk_bids.proofs.FileFindings.{file_extraction_holds}
use Rattle.vk_bids.proofs.Named.{files_are_extracted}
use Rattle.vk_bids.proofs.laws.accepted_replies_give_bids_or_a_clash.Goals as goal

pub returns : goal.returns
returns c = record {
  given = accepted_are_extracted;
  only = only_accepted_are_extracted;
  same = same_is_found;
  found = file_extraction_holds board_form is_form;
  files = files_are_extracted;
}
