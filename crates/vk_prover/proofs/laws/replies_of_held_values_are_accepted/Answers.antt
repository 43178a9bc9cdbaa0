use Rattle.vk_prover.proofs.Accepted.{held_accepted, held_checked, held_published, held_sealed}
use Rattle.vk_prover.proofs.laws.replies_of_held_values_are_accepted.Goals as goal

pub returns : goal.returns
returns c = assumption (held_accepted, held_checked, held_sealed, held_published)
