use Rattle.vk_bids.proofs.Showing.{lanes_open}
use Rattle.vk_bids.proofs.laws.accepted_lanes_open_values.Goals as goal

pub returns : goal.returns
returns c = lanes_open
