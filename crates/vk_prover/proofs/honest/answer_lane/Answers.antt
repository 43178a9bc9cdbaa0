use Rattle.std.proofs.Common.{arith, ◌∙◌}
use Rattle.vk_prover.specs.Honest.{shown_of, honest_reply}
use Rattle.vk_prover.proofs.Wires.{each_wire_turn, each_wire_done}
use Rattle.vk_prover.proofs.honest.answer_lane.Goals as goal

pub loop-wire-preserved : goal.loop-wire-preserved
loop-wire-preserved c =
    each_wire_turn (shown_of c.args.bit) c.args.plan.now.kinds c.args.values.now
    c.args.tape.now.wires c.loop-wire.wire c.loop-wire.shown.items c.push.new.self.items
    c.show_wire.result
    (honest_reply c.args.plan.now.kinds c.args.values.now c.args.tape.now.wires c.args.bit)
    (omega arith) c.requires.holds.one_each c.requires.one_each c.in_ok-push.ensures.items
    c.show_wire.ensures c.loop-wire.invariant

pub returns : goal.returns
returns c =
    c.from_vec.ensures
    ∙ each_wire_done (shown_of c.args.bit) c.args.plan.now.kinds c.args.values.now
    c.args.tape.now.wires c.loop-wire.wire c.loop-wire.shown.items
    (honest_reply c.args.plan.now.kinds c.args.values.now c.args.tape.now.wires c.args.bit)
    (omega arith) c.loop-wire.invariant
