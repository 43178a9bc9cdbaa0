use Rattle.std.proofs.Common.{◌≡◌, map}
use Rattle.std.specs.List.{range_with_len}
use Rattle.vk_report.specs.Samples.{bid_of, bidder_seed, seat_of}
use Rattle.vk_report.proofs.sample.made_case.Given as goal

-- the lists so far are those of the seals so far
abbrev pub invariant-loop-index : goal.invariant-loop-index
invariant-loop-index l = record {
  seats : l.seats ≡ map seat_of (range_with_len 1 l.index);
  seeds : l.seeds ≡ map (bidder_seed l.sizes l.number) (range_with_len 1 l.index);
  bids : l.bids ≡ map (bid_of l.sizes l.number) (range_with_len 1 l.index);
}
