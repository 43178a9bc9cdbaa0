use Rattle.std.proofs.Common.{◌≡◌, ◌++◌, drop, string_bytes}
use Rattle.std.specs.List.{flat_map}
use Rattle.vk_bids.specs.declared.bids.LaneBids.{LaneBids}
use Rattle.vk_bids.specs.Texts.{opened_line}
use Rattle.vk_bids.proofs.printing.add_lanes.Given as goal

-- the lines so far, and those that follow, are all
abbrev pub invariant-loop-lane : goal.invariant-loop-lane
invariant-loop-lane l =
    flat_map string_bytes l.lines.items
    ++ flat_map (λ (lane : LaneBids). flat_map (opened_line l.word lane.number) lane.bids)
    (drop l.lane-index l.lanes)
    ≡ flat_map string_bytes l.fn.lines.items
    ++ flat_map (λ (lane : LaneBids). flat_map (opened_line l.word lane.number) lane.bids) l.lanes
