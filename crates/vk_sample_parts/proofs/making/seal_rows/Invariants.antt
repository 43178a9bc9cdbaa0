use Rattle.std.proofs.Common.{◌≡◌, ◌-◌, [], length}
use Rattle.vk_sample_parts.specs.Auctions.{rows_onto}
use Rattle.vk_sample_parts.proofs.making.seal_rows.Given as goal

-- the seals so far, and those that follow, are all
abbrev pub invariant-loop-index : goal.invariant-loop-index
invariant-loop-index l = record {
  count : length l.rows ≡ l.index;
  made : rows_onto l.sample l.rows (length l.sample.seats - l.index)
      ≡ rows_onto l.sample [] (length l.sample.seats);
}
