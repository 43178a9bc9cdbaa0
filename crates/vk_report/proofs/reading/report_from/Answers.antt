use Rattle.std.proofs.Common.{length, ap, ◌∙◌}
use Rattle.std.proofs.lemmas.List.{length-map}
use Rattle.vk_report.proofs.Winner.{winner_is}
use Rattle.vk_report.proofs.reading.report_from.Goals as goal

pub returns-clause-right : goal.returns-clause-right
returns-clause-right c = record {
  head = c.requires.head;
  price = c.requires.price;
  winner = rw c.in_ok-seats.ensures
      (rw c.as_slice.ensures (winner_is c.args.front.now.seals c.args.front.now.head.winner
      c.args.front.now.position c.requires.winner));
  seats = ap length c.in_ok-seats.ensures
      ∙ rw c.as_slice.ensures (length-map c.args.front.now.seals (λ seal. seal.seat)
      ∙ c.requires.seals.count);
  wires = c.wire_count_of.ensures.count;
  rows = c.row_count_of.ensures;
}
