use Rattle.std.proofs.Common.{◌≡◌, take}
use Rattle.vk_prover.specs.Honest.{masks}
use Rattle.vk_prover.proofs.honest.first_halves.Given as goal

abbrev pub invariant-loop-wire : goal.invariant-loop-wire
invariant-loop-wire l = l.firsts.items ≡ masks (take l.wire-index l.tape.wires)
