use Rattle.std.proofs.Common.{◌≡◌, ◌*◌, [], length, min}
use Rattle.vk_row.specs.LaneTests.{halves_from, halves_after}
use Rattle.vk_row.proofs.wires.read_wires.Given as goal

abbrev pub invariant-loop-group : goal.invariant-loop-group
invariant-loop-group l = record {
  so_many : length l.halves.items ≡ min (4 * l._group) (length l.plan.kinds);
  rest : halves_after l.plan l.lane.case.now l.lane.bit l.lane.shown.now l.halves.items
      ≡ halves_from l.lane.case.now l.lane.bit [] l.plan.kinds l.lane.case.now.coms
      l.lane.shown.now;
}
