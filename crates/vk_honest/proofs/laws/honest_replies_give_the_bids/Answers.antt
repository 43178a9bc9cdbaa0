use Rattle.vk_honest.proofs.Extracted.{bids_are_equal, replies_give_bids, turned_open_all}
use Rattle.vk_honest.proofs.laws.honest_replies_give_the_bids.Goals as goal

pub returns : goal.returns
returns c = record { given = replies_give_bids; equal = bids_are_equal; turned = turned_open_all }
