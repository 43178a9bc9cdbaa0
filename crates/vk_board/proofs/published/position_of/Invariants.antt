use Rattle.std.proofs.Common.{◌≡◌, ◌+◌, drop}
use Rattle.vk_board.specs.Published.{position_from}
use Rattle.vk_board.proofs.published.position_of.Given as goal

-- none of the seals so far has the seat
abbrev pub invariant-loop-index : goal.invariant-loop-index
invariant-loop-index l = position_from l.seat (l.index + 1) (drop l.index l.seals)
    ≡ position_from l.seat 1 l.seals
