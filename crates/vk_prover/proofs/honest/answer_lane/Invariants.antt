use Rattle.std.proofs.Common.{◌≡◌, ◌++◌, drop}
use Rattle.vk_prover.specs.Honest.{each_wire, shown_of, honest_reply}
use Rattle.vk_prover.proofs.honest.answer_lane.Given as goal

-- what is shown so far and what is to be shown of the wires left
abbrev pub invariant-loop-wire : goal.invariant-loop-wire
invariant-loop-wire l =
    l.shown.items
    ++ each_wire (shown_of l.bit) l.wire (drop l.wire l.plan.kinds) (drop l.wire l.values)
    (drop l.wire l.tape.wires)
    ≡ honest_reply l.plan.kinds l.values l.tape.wires l.bit
