use Rattle.std.proofs.Common.{◌≡◌, ◌+◌, ◌<◌, length, sym, ap, ◌∙◌, arith}
use Rattle.vk_plan.specs.Plans.{PlanValue}
use Rattle.vk_range.specs.Ranged.{ranged_plan}
use Rattle.vk_matching.specs.Eithers.{either_wires}
use Rattle.vk_matching.specs.Blocks.{blocks_none, block_room, block_added}
use Rattle.vk_matching.specs.MatchingPlans.{matching_plan, pair_count, size_of, rank_ranges}
use Rattle.vk_matching.specs.MatchingLaws.{pair_rows, pairs_plan, is_ranged, at_fits, pairs_long, pairs_is_plan, plan_whole, matching_wires, matching_rows}
use Rattle.vk_matching.specs.Circuits.{inputs_of, numbers_of}
use Rattle.vk_matching.proofs.circuit.MatchingPlanCircuit.plan.Goals as goal
use Rattle.vk_matching.proofs.circuit.MatchingPlanCircuit.plan.Goals.{After-drop-ranges-2}

pub ranged_plan-requires : goal.ranged_plan-requires
ranged_plan-requires c =
    let s = c.args.self.now in
    rw c.in_ok-ranges.ensures (is_ranged (inputs_of s) (numbers_of s) s.in_limits)

pub loop-pair-init : goal.loop-pair-init
loop-pair-init c =
    let s = c.args.self.now in
    let ranges = rank_ranges (inputs_of s) (numbers_of s) in
    c.in_ok-plan.ensures ∙ ap (ranged_plan s.inputs) c.in_ok-ranges.ensures
    ∙ sym (blocks_none (either_wires s.width) (pair_rows (inputs_of s) (numbers_of s))
    (ranged_plan (inputs_of s) ranges))

pub add-requires-clause-fits : goal.add-requires-clause-fits
add-requires-clause-fits c =
    let s = c.args.self.now in
    let pair = c.loop-pair.pair in
    let inside : pair < pair_count (size_of (numbers_of s)) = omega arith in
    let long =
    ap (λ (p : PlanValue). length p.kinds) c.loop-pair.invariant
    ∙ pairs_long (inputs_of s) (numbers_of s) s.in_limits pair in
    rw c.either.ensures (at_fits (inputs_of s) (numbers_of s) s.in_limits pair
    (length c.loop-pair.plan.kinds) inside (omega arith))

pub add-requires-clause-room : goal.add-requires-clause-room
add-requires-clause-room c =
    let s = c.args.self.now in
    let pair = c.loop-pair.pair in
    let ranges = rank_ranges (inputs_of s) (numbers_of s) in
    rw c.either.ensures
    (block_room (either_wires s.width) (pair_rows (inputs_of s) (numbers_of s))
    (ranged_plan (inputs_of s) ranges) c.loop-pair.plan pair
    c.loop-pair.invariant (pairs_is_plan (inputs_of s) (numbers_of s) s.in_limits (pair + 1)
    (omega arith)))

pub loop-pair-preserved : goal.loop-pair-preserved
loop-pair-preserved c =
    let s = c.args.self.now in
    let ranges = rank_ranges (inputs_of s) (numbers_of s) in
    block_added (either_wires s.width) (pair_rows (inputs_of s) (numbers_of s))
    (ranged_plan (inputs_of s) ranges) c.loop-pair.plan c.add.new.plan
    c.loop-pair.pair c.loop-pair.invariant (rw c.either.ensures at c.in_ok-add.ensures.added)

whole : (c : After-drop-ranges-2)
    → c.loop-pair.plan ≡ matching_plan (inputs_of c.args.self.now) (numbers_of c.args.self.now)
whole c =
    let s = c.args.self.now in
    let all : c.loop-pair.pair ≡ pair_count (size_of (numbers_of s)) = omega arith in
    c.loop-pair.invariant ∙ ap (pairs_plan (inputs_of s) (numbers_of s)) all
    ∙ sym (plan_whole (inputs_of s) (numbers_of s))

pub returns-clause-plan : goal.returns-clause-plan
returns-clause-plan c = whole c

pub returns-clause-wires : goal.returns-clause-wires
returns-clause-wires c =
    let s = c.args.self.now in
    ap (λ (p : PlanValue). length p.kinds) (whole c)
    ∙ matching_wires (inputs_of s) (numbers_of s) s.in_limits

pub returns-clause-rows : goal.returns-clause-rows
returns-clause-rows c =
    let s = c.args.self.now in
    ap (λ (p : PlanValue). length p.rows) (whole c)
    ∙ matching_rows (inputs_of s) (numbers_of s) s.in_limits
