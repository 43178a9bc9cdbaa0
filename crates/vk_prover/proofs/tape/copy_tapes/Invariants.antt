use Rattle.std.proofs.Common.{◌≡◌, ◌≤◌, All, take}
use Rattle.std.specs.Prelude.{vec_capacity}
use Rattle.vk_wire.specs.Values.{IsTape}
use Rattle.vk_prover.proofs.tape.copy_tapes.Given as goal

-- the tapes so far
abbrev pub invariant-loop-tape : goal.invariant-loop-tape
invariant-loop-tape l = record {
  same : l.wires.items ≡ take l.tape-index l.given;
  tapes : All IsTape l.wires.items;
  room : l.count ≤ vec_capacity l.wires;
}
