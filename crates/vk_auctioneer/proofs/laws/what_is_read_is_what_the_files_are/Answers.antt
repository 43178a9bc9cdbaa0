use Rattle.vk_auctioneer.proofs.Reading.{reads_challenge, reads_row}
use Rattle.vk_auctioneer.proofs.laws.what_is_read_is_what_the_files_are.Goals as goal

pub returns : goal.returns
returns c = record { row = reads_row; challenge = reads_challenge }
