use Rattle.std.proofs.Common.{◌≡◌, drop}
use Rattle.vk_bids.specs.Confrontation.{confronted_lanes}
use Rattle.vk_bids.proofs.confrontation.confront_lanes.Given as goal

-- the first clash of the lanes that are left is the first of all
abbrev pub invariant-loop-lane : goal.invariant-loop-lane
invariant-loop-lane l = confronted_lanes l.secret l.index (drop l.lane-index l.lanes)
    ≡ confronted_lanes l.fn.secret l.fn.index l.fn.lanes
