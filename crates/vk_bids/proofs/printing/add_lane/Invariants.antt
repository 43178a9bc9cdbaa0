use Rattle.std.proofs.Common.{◌≡◌, ◌++◌, drop, string_bytes}
use Rattle.std.specs.List.{flat_map}
use Rattle.vk_bids.specs.Texts.{opened_line}
use Rattle.vk_bids.proofs.printing.add_lane.Given as goal

-- the lines so far, and those that follow, are all
abbrev pub invariant-loop-value : goal.invariant-loop-value
invariant-loop-value l =
    flat_map string_bytes l.lines.items
    ++ flat_map (opened_line l.word l.lane.number) (drop l.value-index l.lane.bids)
    ≡ flat_map string_bytes l.fn.lines.items
    ++ flat_map (opened_line l.word l.lane.number) l.lane.bids
