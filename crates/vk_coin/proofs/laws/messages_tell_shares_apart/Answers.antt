use Rattle.vk_coin.proofs.Messages.{message_length, same_share}
use Rattle.vk_coin.proofs.laws.messages_tell_shares_apart.Goals as goal

pub returns-clause-size : goal.returns-clause-size
returns-clause-size c = message_length

pub returns-clause-apart : goal.returns-clause-apart
returns-clause-apart c = same_share
