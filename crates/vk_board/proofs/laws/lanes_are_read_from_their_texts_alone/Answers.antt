use Rattle.vk_board.proofs.Forms.{lane_is_part}
use Rattle.vk_board.proofs.laws.lanes_are_read_from_their_texts_alone.Goals as goal

pub returns : goal.returns
returns c lane wires rows few = lane_is_part lane wires rows few
