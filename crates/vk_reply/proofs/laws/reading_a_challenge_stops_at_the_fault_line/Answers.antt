use Rattle.vk_reply.proofs.Challenges.{challenge_fault}
use Rattle.vk_reply.proofs.laws.reading_a_challenge_stops_at_the_fault_line.Goals as goal

pub returns : goal.returns
returns c bytes = challenge_fault bytes
