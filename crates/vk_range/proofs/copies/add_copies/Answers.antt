use Rattle.std.proofs.Common.{arith}
use Rattle.vk_range.specs.Copies.{copies_room, copies_added}
use Rattle.vk_range.proofs.copies.add_copies.Goals as goal

pub add-requires-clause-room : goal.add-requires-clause-room
add-requires-clause-room c =
    copies_room c.args.inputs c.loop-wire.wire c.loop-wire.plan c.requires.most
    c.loop-wire.invariant (omega arith)

pub loop-wire-preserved : goal.loop-wire-preserved
loop-wire-preserved c =
    copies_added c.args.inputs c.loop-wire.wire c.loop-wire.plan c.add.new.plan
    c.loop-wire.invariant c.in_default.ensures.added
