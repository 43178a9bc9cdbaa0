use Rattle.std.proofs.Common.{◌≡◌, length}
use Rattle.vk_row.specs.LaneTests.{halves_after}
use Rattle.vk_row.proofs.wires.read_group.Given as goal

abbrev pub invariant-loop-wire : goal.invariant-loop-wire
invariant-loop-wire l = record {
  so_many : length l.halves.items ≡ l.wire;
  rest : halves_after l.plan l.lane.case.now l.lane.bit l.lane.shown.now l.halves.items
      ≡ halves_after l.plan l.lane.case.now l.lane.bit l.lane.shown.now l.fn.halves.items;
}
