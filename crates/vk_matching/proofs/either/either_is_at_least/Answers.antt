use Rattle.vk_matching.specs.EitherLaws.{either_is_at_least}
use Rattle.vk_matching.proofs.either.either_is_at_least.Goals as goal

pub returns : goal.returns
returns c = either_is_at_least
