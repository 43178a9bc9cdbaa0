use Rattle.vk_commit.proofs.Messages.{same_value}
use Rattle.vk_commit.proofs.laws.messages_tell_values_apart.Goals as goal

pub returns-clause-differ : goal.returns-clause-differ
returns-clause-differ c place other first second is_first is_second differ same =
    differ (same_value place other first second is_first.value is_second.value same)
