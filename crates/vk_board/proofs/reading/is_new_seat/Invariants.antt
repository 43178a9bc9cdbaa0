use Rattle.std.proofs.Common.{◌≡◌, drop}
use Rattle.vk_board.specs.Reading.{is_new_seat, seats_of}
use Rattle.vk_board.proofs.reading.is_new_seat.Given as goal

-- the seals that are left tell it
abbrev pub invariant-loop-earlier : goal.invariant-loop-earlier
invariant-loop-earlier l = is_new_seat (seats_of (drop l.earlier-index l.before)) l.seat
    ≡ is_new_seat (seats_of l.before) l.seat
