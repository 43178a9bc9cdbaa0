use Rattle.vk_house.proofs.Migrating.{same_replies, same_ledger, same_proof, same_board, same_shown}
use Rattle.vk_house.proofs.laws.a_lifted_ledger_goes_on_as_before.Goals as goal

pub returns : goal.returns
returns c = record { replies = same_replies; ledger = same_ledger; proof = same_proof; board = same_board; shown = same_shown }
