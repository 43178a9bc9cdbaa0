use Rattle.vk_job.proofs.Held.{further_wires_are}
use Rattle.vk_job.proofs.sale.further_wires.Goals as goal

pub returns-clause-wires : goal.returns-clause-wires
returns-clause-wires c =
    further_wires_are c.args.auction.now c.len-seals.result c.board_wire_count.result c.args.sale
    c.requires.right c.requires.sealed
    c.len-seals.ensures c.requires.sale c.board_wire_count.ensures.count
