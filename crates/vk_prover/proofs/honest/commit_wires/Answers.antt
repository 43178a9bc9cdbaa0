use Rattle.std.proofs.Common.{◌≡◌, ◌≤◌, ◌+◌, ◌-◌, ◌*◌, [], ap, arith, length, ◌∙◌}
use Rattle.vk_prover.specs.Honest.{com_of}
use Rattle.vk_prover.proofs.Wires.{each_wire_turn, each_wire_done, inputs_within}
use Rattle.vk_prover.proofs.honest.commit_wires.Goals as goal
use Rattle.vk_prover.proofs.honest.commit_wires.Goals.{then-count-eq1+in_ok-push-3, else-count-eq1}

pub loop-two-preserved : goal.loop-two-preserved
loop-two-preserved c =
    let plan = c.args.wires.now.plan.now in
    let values = c.args.wires.now.values.now in
    let made = com_of c.args.wires.now.auction.now c.args.wires.now.lane [] in
    let w = c.inputs-inputs.result + 2 * c.loop-two.two in
    let few : plan.inputs ≤ length plan.kinds = inputs_within plan c.inputs-inputs.ensures.plan in
    let one = each_wire_turn made plan.kinds values c.args.wires.now.tape.now.wires w
    c.loop-two.coms.items c.push.new.self.items c.make_two.result.0 _
    (omega arith) c.requires.holds.one_each c.requires.one_each c.in_ok-push.ensures.items
    (c.make_two.ensures.first ∙ c.honest_wire-first.ensures.coms) c.loop-two.invariant in
    let two = each_wire_turn made plan.kinds values c.args.wires.now.tape.now.wires (w + 1)
    c.push.new.self.items c.push-in-loop-two.new.self.items c.make_two.result.1 _
    (omega arith) c.requires.holds.one_each c.requires.one_each c.in_ok-push-2.ensures.items
    (c.make_two.ensures.second ∙ c.honest_wire-second.ensures.coms) one in
    let next : w + 1 + 1 ≡ c.inputs-inputs.result + 2 * (c.loop-two.two + 1) = omega arith in
    rw next at two

pub returns : goal.returns
returns c =
    let plan = c.args.wires.now.plan.now in
    let values = c.args.wires.now.values.now in
    let made = com_of c.args.wires.now.auction.now c.args.wires.now.lane [] in
    let w = c.inputs-inputs.result + 2 * c.loop-two.two in
    let few : plan.inputs ≤ length plan.kinds = inputs_within plan c.inputs-inputs.ensures.plan in
    elim c.if-count-eq1.branch [
      | then-count-eq1+in_ok-push-3 b ↦
          let at : b.wires-then-count-eq1.result - 1 ≡ w = omega arith in
          let last = each_wire_turn made plan.kinds values c.args.wires.now.tape.now.wires w
          c.loop-two.coms.items b.push-then-count-eq1.new.self.items b.make.result _
          (omega arith) c.requires.holds.one_each c.requires.one_each b.in_ok-push-3.ensures.items
          (b.make.ensures ∙ rw at at b.honest_wire-last.ensures.coms) c.loop-two.invariant in
          c.from_vec.ensures ∙ ap (λ coms. coms.items) b.coms-is
          ∙ each_wire_done made plan.kinds values c.args.wires.now.tape.now.wires (w + 1)
          b.push-then-count-eq1.new.self.items _ (omega arith) last
      | else-count-eq1 b ↦
          c.from_vec.ensures ∙ ap (λ coms. coms.items) b.coms-is
          ∙ each_wire_done made plan.kinds values c.args.wires.now.tape.now.wires w
          c.loop-two.coms.items _ (omega arith) c.loop-two.invariant
    ]
