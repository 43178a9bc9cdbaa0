use Rattle.vk_bids.proofs.Headlines.{accepted_behind_open, only_accepted_open}
use Rattle.vk_bids.proofs.laws.accepted_replies_open_values_or_clash.Goals as goal

pub returns : goal.returns
returns c = record { given = accepted_behind_open; only = only_accepted_open }
