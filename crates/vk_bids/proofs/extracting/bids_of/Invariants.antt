use Rattle.std.proofs.Common.{◌≡◌, ◌++◌, drop}
use Rattle.vk_board.specs.Reading.{seats_of}
use Rattle.vk_bids.specs.Bids.{opened_bids}
use Rattle.vk_bids.proofs.extracting.bids_of.Given as goal

-- the bids so far, and those that follow, are all
abbrev pub invariant-loop-index : goal.invariant-loop-index
invariant-loop-index l =
    l.bids.items ++ opened_bids (seats_of (drop l.index l.seals)) (drop l.index l.zero)
    (drop l.index l.one)
    ≡ opened_bids (seats_of l.seals) l.zero l.one
