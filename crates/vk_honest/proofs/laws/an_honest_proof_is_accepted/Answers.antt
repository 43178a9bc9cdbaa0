use Rattle.vk_honest.proofs.Accepted.{proofs_are_accepted}
use Rattle.vk_honest.proofs.laws.an_honest_proof_is_accepted.Goals as goal

pub returns : goal.returns
returns c = proofs_are_accepted
