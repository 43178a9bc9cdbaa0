use Rattle.std.proofs.Common.{◌≡◌, ◌++◌, drop, string_bytes}
use Rattle.std.specs.List.{flat_map}
use Rattle.vk_bids.specs.Texts.{agreements_text}
use Rattle.vk_bids.proofs.printing.add_agreements.Given as goal

-- the lines so far, and those that follow, are all
abbrev pub invariant-loop-index : goal.invariant-loop-index
invariant-loop-index l =
    flat_map string_bytes l.lines.items ++ agreements_text l.index (drop l.index l.seals) l.lanes
    ≡ flat_map string_bytes l.fn.lines.items ++ agreements_text 0 l.seals l.lanes
