use Rattle.vk_coin.proofs.Faults.{share_fault}
use Rattle.vk_coin.proofs.laws.reading_a_share_stops_at_the_fault_line.Goals as goal

pub returns : goal.returns
returns c bytes = share_fault bytes
