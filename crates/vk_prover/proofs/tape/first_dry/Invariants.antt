use Rattle.std.proofs.Common.{◌≡◌, ◌+◌, ◌-◌}
use Rattle.vk_prover.specs.Drawn.{dry_wire}
use Rattle.vk_prover.proofs.tape.first_dry.Given as goal

-- the first of the wires left is the first of all
abbrev pub invariant-loop-wire : goal.invariant-loop-wire
invariant-loop-wire g l = dry_wire l.wire (l.before + l.count - l.wire) (g.W.Words.ahead l.words)
    ≡ dry_wire l.before l.count (g.W.Words.ahead l.fn.words)
