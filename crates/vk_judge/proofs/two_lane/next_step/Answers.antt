use Rattle.std.proofs.Common.{rules, ◌<◌, length, arith}
use Rattle.vk_judge.proofs.TwoFound.{lane_given, ends_given}
use Rattle.vk_judge.proofs.two_lane.next_step.Goals as goal

pub returns-then-given-lanes-clause-modelled : goal.returns-then-given-lanes-clause-modelled
returns-then-given-lanes-clause-modelled g c =
    ends_given _ c.args.base.now c.args.given _ _ _
    (omega (arith, c.requires.base.first, c.if-given-lanes.true, c.lanes.ensures.value))
    c.read_finding-found.ensures.modelled

pub returns-clause-modelled : goal.returns-clause-modelled
returns-clause-modelled g c =
    let lanes = c.lanes.ensures.value in
    let first : c.args.given < length c.args.base.now.first_bits =
    omega (arith, c.requires.base.first, c.requires.within, c.if-given-lanes.false, lanes) in
    let second : c.args.given < length c.args.base.now.second_bits =
    omega (arith, c.requires.base.second, c.requires.within, c.if-given-lanes.false, lanes) in
    lane_given _ _ _ _ _ _ _ _ first second (search rules) (search rules)
    c.read_two-lane.ensures.modelled
