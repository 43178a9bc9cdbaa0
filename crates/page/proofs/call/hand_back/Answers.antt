use Rattle.page.proofs.Rooms.{begins_put}
use Rattle.page.proofs.call.hand_back.Goals as goal

pub returns-in-Some-clause-begins : goal.returns-in-Some-clause-begins
returns-in-Some-clause-begins c given =
    rw (← c.bytes.ensures) (begins_put _ c.in-Some._end c.args.room.now c.show.new.room
    c.in-Some.ensures)
