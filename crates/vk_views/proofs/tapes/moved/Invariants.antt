use Rattle.std.proofs.Common.{◌≡◌, ◌++◌, drop, take, slice_index, All}
use Rattle.vk_wire.specs.Values.{IsTape}
use Rattle.vk_prover.specs.Honest.{each_wire}
use Rattle.vk_views.specs.Moved.{moved_wire, moved_tape}
use Rattle.vk_views.proofs.tapes.moved.Given as goal

-- the tapes moved so far and those of the wires left; and those moved so far were tapes
abbrev pub invariant-loop-wire : goal.invariant-loop-wire
invariant-loop-wire l = record {
  moved : l.wires ++ each_wire
      (λ wire kind value own. moved_wire kind value (slice_index l.others wire) l.bit own) l.wire
      (drop l.wire l.plan.kinds) (drop l.wire l.values) (drop l.wire l.tape.wires)
      ≡ moved_tape l.plan.kinds l.values l.others l.bit l.tape.wires;
  tapes : All IsTape (take l.wire l.tape.wires);
}
