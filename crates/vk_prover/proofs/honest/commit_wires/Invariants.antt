use Rattle.std.proofs.Common.{◌≡◌, ◌+◌, ◌*◌, ◌++◌, [], drop}
use Rattle.vk_prover.specs.Honest.{each_wire, com_of}
use Rattle.vk_prover.proofs.honest.commit_wires.Given as goal

-- the commitments so far and those to the wires left
abbrev pub invariant-loop-two : goal.invariant-loop-two
invariant-loop-two l =
    let wire = l.inputs + 2 * l.two in
    l.coms.items ++ each_wire (com_of l.wires.auction.now l.wires.lane []) wire
    (drop wire l.wires.plan.now.kinds) (drop wire l.wires.values.now)
    (drop wire l.wires.tape.now.wires)
    ≡ each_wire (com_of l.wires.auction.now l.wires.lane []) l.wires.plan.now.inputs
    (drop l.wires.plan.now.inputs l.wires.plan.now.kinds)
    (drop l.wires.plan.now.inputs l.wires.values.now)
    (drop l.wires.plan.now.inputs l.wires.tape.now.wires)
