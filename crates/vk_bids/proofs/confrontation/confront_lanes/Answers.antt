use Rattle.std.proofs.Common.{◌∙◌, None, Some, sym}
use Rattle.vk_bids.proofs.Confronted.{lanes_over, lanes_turn}
use Rattle.vk_bids.proofs.confrontation.confront_lanes.Goals as goal

pub returns-in-Some : goal.returns-in-Some
returns-in-Some c =
    lanes_turn c.args.secret.now c.args.index c.args.lanes.now c.loop-lane.lane-index
    c.lane-item.result (Some c.in-Some.two) _ c.loop-lane-test.true c.lane-item.is
    c.loop-lane.invariant
    (sym c.confront_lane.ensures ∙ c.in-Some.is)

pub loop-lane-preserved : goal.loop-lane-preserved
loop-lane-preserved c =
    lanes_turn c.args.secret.now c.args.index c.args.lanes.now c.loop-lane.lane-index
    c.lane-item.result None _ c.loop-lane-test.true c.lane-item.is c.loop-lane.invariant
    (sym c.confront_lane.ensures ∙ c.in_default.is)

pub returns : goal.returns
returns c =
    sym (sym c.loop-lane.invariant
    ∙ lanes_over c.args.secret.now c.args.index c.args.lanes.now c.loop-lane.lane-index
    c.loop-lane-test.false)
