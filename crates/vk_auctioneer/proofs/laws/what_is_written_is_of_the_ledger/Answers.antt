use Rattle.vk_auctioneer.proofs.Written.{boards_are_written, replies_are_written}
use Rattle.vk_auctioneer.proofs.laws.what_is_written_is_of_the_ledger.Goals as goal

pub returns : goal.returns
returns c = record { boards = boards_are_written; replies = replies_are_written }
