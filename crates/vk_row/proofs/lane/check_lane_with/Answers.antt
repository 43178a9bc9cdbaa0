use Rattle.std.proofs.Common.{◌≡◌, Ok, Err, inr, rules}
use Rattle.vk_row.specs.declared.case.LaneFault.TheVariants.{Row}
use Rattle.vk_row.specs.LaneTests.{checked_lane}
use Rattle.vk_row.proofs.Whole.{ok_accepted, err_faulty}
use Rattle.vk_row.proofs.lane.check_lane_with.Goals as goal

pub returns-in-Some : goal.returns-in-Some
unfolding checked_lane
returns-in-Some c =
    let computed : checked_lane c.args.plan.now c.args.case.now c.args.bit c.args.shown.now
    ≡ Err (Row c.in-Some.row) = search rules in
    record {
      judged = record {
        accepted = tt;
        refused = inr (err_faulty c.args.plan.now c.args.case.now c.args.bit c.args.shown.now
            (Row c.in-Some.row) c.read_wires.ensures.plan c.requires.counts computed);
        halves = tt;
        fault = inr computed;
      };
    }

pub returns-in-None : goal.returns-in-None
unfolding checked_lane
returns-in-None c =
    let computed : checked_lane c.args.plan.now c.args.case.now c.args.bit c.args.shown.now
    ≡ Ok c.in_ok-halves.halves.items = search rules in
    record {
      judged = record {
        accepted = ok_accepted c.args.plan.now c.args.case.now c.args.bit c.args.shown.now
            c.in_ok-halves.halves.items c.read_wires.ensures.plan c.requires.counts computed;
        refused = tt;
        halves = computed;
        fault = tt;
      };
    }
