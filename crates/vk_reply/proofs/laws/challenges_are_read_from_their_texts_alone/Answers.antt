use Rattle.vk_reply.proofs.Challenges.{challenge_is_whole}
use Rattle.vk_reply.proofs.laws.challenges_are_read_from_their_texts_alone.Goals as goal

pub returns : goal.returns
returns c = challenge_is_whole
