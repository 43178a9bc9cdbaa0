use Rattle.vk_commit.specs.Commitment.{message}
use Rattle.vk_commit.proofs.Digests.{digest_is_bytes}
use Rattle.vk_commit.proofs.laws.commitments_are_bytes.Goals as goal

pub returns : goal.returns
returns c place opening = digest_is_bytes (message place opening)
