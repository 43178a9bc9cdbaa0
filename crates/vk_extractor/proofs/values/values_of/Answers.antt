use Rattle.std.proofs.Common.{arith}
use Rattle.std.proofs.lemmas.Grind.{common_steps}
use Rattle.vk_extractor.proofs.Holding.{sums_more, sums_all}
use Rattle.vk_extractor.proofs.values.values_of.Goals as goal

pub loop-wire-preserved : goal.loop-wire-preserved
loop-wire-preserved c case firsts seconds first second =
    let so_far = c.loop-wire.invariant case firsts seconds first second in
    let more = sums_more c.args.plan.now case c.args.zero.now c.args.one.now firsts seconds
    c.loop-wire.wire c.wires-wires.ensures.plan first second (omega arith) in
    grind (arith, common_steps)

pub returns-clause-sums : goal.returns-clause-sums
returns-clause-sums c case firsts seconds first second =
    let so_far = c.loop-wire.invariant case firsts seconds first second in
    let all = sums_all c.args.plan.now case c.args.zero.now c.args.one.now firsts seconds first
    second in
    grind (arith, common_steps)
