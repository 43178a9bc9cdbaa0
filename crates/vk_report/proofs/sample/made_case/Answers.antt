use Rattle.std.proofs.Common.{◌+◌, refl, rules}
use Rattle.std.proofs.lemmas.List.FromFn.{map-range_with_len_more}
use Rattle.vk_report.specs.Samples.{bid_of, bidder_seed, seat_of}
use Rattle.vk_report.proofs.sample.made_case.Goals as goal

pub loop-index-preserved : goal.loop-index-preserved
loop-index-preserved c = record {
  seats = rw (map-range_with_len_more seat_of 1 c.loop-index.index (1 + c.loop-index.index) refl)
      (search rules);
  seeds = rw (map-range_with_len_more (bidder_seed c.args.sizes.now c.args.number) 1
      c.loop-index.index (1 + c.loop-index.index) refl) (search rules);
  bids = rw (map-range_with_len_more (bid_of c.args.sizes.now c.args.number) 1 c.loop-index.index
      (1 + c.loop-index.index) refl) (search rules);
}
