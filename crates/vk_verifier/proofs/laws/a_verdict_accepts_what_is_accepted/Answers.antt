use Rattle.vk_verifier.proofs.Verdicts.{accepted_exactly}
use Rattle.vk_verifier.proofs.laws.a_verdict_accepts_what_is_accepted.Goals as goal

pub returns : goal.returns
returns c = accepted_exactly
