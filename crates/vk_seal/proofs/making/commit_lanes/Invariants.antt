use Rattle.std.proofs.Common.{◌≡◌, ◌≤◌, ◌+◌, ◌++◌, drop, length}
use Rattle.std.specs.Prelude.{vec_capacity}
use Rattle.std.specs.List.{All}
use Rattle.vk_seal.specs.Made.{lane_coms}
use Rattle.vk_wire.specs.Values.{IsCom}
use Rattle.vk_seal.proofs.making.commit_lanes.Given as goal

-- the commitments so far and those of the lanes left are those of all lanes
abbrev pub invariant-loop-index : goal.invariant-loop-index
invariant-loop-index l = record {
  made : l.coms.items ++ lane_coms l.auction l.seat l.bid (l.index + 1) (drop l.index l.tapes)
      ≡ lane_coms l.auction l.seat l.bid 1 l.tapes;
  count : length l.coms.items ≡ l.index;
  room : length l.tapes ≤ vec_capacity l.coms;
  right : All IsCom l.coms.items;
}
