use Rattle.std.proofs.Common.{arith}
use Rattle.std.proofs.lemmas.List.Elements.{recursion_from_All}
use Rattle.vk_wire.specs.Values.{IsCom}
use Rattle.vk_board.proofs.Seats.{new_from_test}
use Rattle.vk_board.proofs.reading.seal_from.Goals as goal

pub returns-clause-right : goal.returns-clause-right
returns-clause-right c = record {
  right = record {
    some_seat = c.requires.some_seat;
    last_seat = omega arith;
    count = c.requires.count;
    coms = recursion_from_All IsCom c.args.coms c.requires.digests;
  };
  new_seat = new_from_test c.args.seat c.args.before.now c.requires.new_seat;
}
