use Rattle.vk_house.proofs.Stepping.{same_reply, same_value, call_others}
use Rattle.vk_house.proofs.laws.a_command_looks_at_its_own_auction_alone.Goals as goal

pub returns : goal.returns
returns c = record { reply = same_reply; value = same_value; others = call_others }
