use Rattle.std.proofs.Common.{rules, ◌∙◌, ◌<◌, length, refl, arith}
use Rattle.vk_judge.specs.Parts.{rest_judged}
use Rattle.vk_judge.proofs.LaneLoop.{lane_turn, left_judged, rest_done, rest_stop}
use Rattle.vk_judge.proofs.judging.judge_rest.Goals as goal

pub returns-in_err-judge_lane-clause-modelled : goal.returns-in_err-judge_lane-clause-modelled
unfolding rest_judged
returns-in_err-judge_lane-clause-modelled g c =
    let left = c.args.left in
    rest_stop _ _ _ left.bits.now c.loop-index.index _ _ _ _ c.loop-index.pair
    c.judge_lane.new.pair
    (omega (arith, c.loop-index-test.true, c.requires.bits, c.lanes-lanes.ensures.value))
    (search rules) c.loop-index.invariant.held (search rules) c.loop-index.invariant.modelled
    c.in_err-judge_lane.ensures.modelled

pub loop-index-preserved : goal.loop-index-preserved
loop-index-preserved g c =
    let left = c.args.left in
    let within : c.loop-index.index < length left.bits.now =
    omega (arith, c.loop-index-test.true, c.requires.bits, c.lanes-lanes.ensures.value) in
    record {
      modelled = lane_turn _ _ _ _ _ _ _ _ _ _ within (search rules)
          c.loop-index.invariant.held c.loop-index.invariant.modelled
          c.in_ok-judge_lane.ensures.modelled;
      held = c.in_ok-judge_lane.ensures.shelf.held ∙ c.loop-index.invariant.held;
      kept = c.in_ok-judge_lane.ensures.shelf.causes ∙ c.loop-index.invariant.kept;
    }

pub returns-clause-modelled : goal.returns-clause-modelled
unfolding rest_judged
returns-clause-modelled g c =
    let left = c.args.left in
    rest_done _ _ _ left.bits.now c.loop-index.index _ _
    (left_judged left.statement.now left.bits.now left.judged c.args.pair.now) _
    (omega (arith, c.loop-index-test.false, c.requires.bits, c.lanes-lanes.ensures.value))
    c.loop-index.invariant.held refl c.loop-index.invariant.modelled
    c.read_ends-done.ensures.modelled
