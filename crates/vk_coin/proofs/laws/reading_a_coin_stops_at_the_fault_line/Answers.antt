use Rattle.vk_coin.proofs.Faults.{coin_fault}
use Rattle.vk_coin.proofs.laws.reading_a_coin_stops_at_the_fault_line.Goals as goal

pub returns : goal.returns
returns c bytes = coin_fault bytes
