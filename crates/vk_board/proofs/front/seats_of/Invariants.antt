use Rattle.std.proofs.Common.{◌≡◌, take}
use Rattle.vk_board.specs.Reading.{seats_of}
use Rattle.vk_board.proofs.front.seats_of.Given as goal

-- the seats of the seals so far
abbrev pub invariant-loop-seal : goal.invariant-loop-seal
invariant-loop-seal l = l.seats ≡ seats_of (take l.seal-index l.seals)
