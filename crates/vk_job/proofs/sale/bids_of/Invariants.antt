use Rattle.std.proofs.Common.{◌≡◌, length, map, take}
use Rattle.vk_job.proofs.sale.bids_of.Given as goal

abbrev pub invariant-loop-index : goal.invariant-loop-index
invariant-loop-index l = record {
  room : length l.bids ≡ 64;
  so_far : take l.index l.bids ≡ take l.index (map (λ row. row.secret.bid) l.rows);
}
