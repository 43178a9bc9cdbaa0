use Rattle.vk_seal.proofs.Forms.{secret_fault}
use Rattle.vk_seal.proofs.laws.reading_a_secret_stops_at_the_fault_line.Goals as goal

pub returns : goal.returns
returns c bytes = secret_fault bytes
