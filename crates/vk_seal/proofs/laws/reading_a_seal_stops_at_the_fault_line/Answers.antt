use Rattle.vk_seal.proofs.Forms.{seal_fault}
use Rattle.vk_seal.proofs.laws.reading_a_seal_stops_at_the_fault_line.Goals as goal

pub returns : goal.returns
returns c bytes = seal_fault bytes
