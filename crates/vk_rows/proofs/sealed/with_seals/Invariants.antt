use Rattle.std.proofs.Common.{◌≡◌, map, take}
use Rattle.vk_keeper.specs.Auctions.{IsAuction}
use Rattle.vk_rows.specs.Columns.{ShowSeals, seal_texts}
use Rattle.vk_rows.proofs.sealed.with_seals.Given as goal

-- it stays an auction, and gets the seals of the rows so far
abbrev pub invariant-loop-row : goal.invariant-loop-row
invariant-loop-row l = record {
  right : IsAuction l.auction;
  same : l.auction ≡ record l.fn.auction { seals = l.auction.seals };
  shown : ShowSeals 0 (take l.row-index l.rows) (map seal_texts l.auction.seals);
}
