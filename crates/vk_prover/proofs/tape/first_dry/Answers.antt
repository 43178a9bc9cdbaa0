use Rattle.std.proofs.Common.{◌+◌, ◌-◌, arith, sym}
use Rattle.vk_prover.specs.Drawn.{dry_wire}
use Rattle.vk_prover.proofs.Drawing.{dry_turn, dry_found, dry_done}
use Rattle.vk_prover.proofs.tape.first_dry.Goals as goal

pub returns-in_default : goal.returns-in_default
returns-in_default g c =
    sym (dry_found c.draw.result c.loop-wire.wire (c.args.before + c.args.count - c.loop-wire.wire)
    (g.W.Words.ahead c.loop-wire.words)
    (dry_wire c.args.before c.args.count (g.W.Words.ahead c.args.words.now)) (omega arith)
    c.in_default.is c.draw.ensures.drawn c.loop-wire.invariant)

pub loop-wire-preserved : goal.loop-wire-preserved
loop-wire-preserved g c =
    dry_turn c.draw.result c.in-Some._tape c.loop-wire.wire
    (c.args.before + c.args.count - c.loop-wire.wire)
    (c.args.before + c.args.count - (c.loop-wire.wire + 1))
    (g.W.Words.ahead c.loop-wire.words) (g.W.Words.ahead c.draw.new.words)
    (dry_wire c.args.before c.args.count (g.W.Words.ahead c.args.words.now))
    (omega arith) c.in-Some.is c.draw.ensures.drawn c.draw.ensures.after c.loop-wire.invariant

pub returns : goal.returns
returns g c =
    sym (dry_done c.loop-wire.wire (c.args.before + c.args.count - c.loop-wire.wire)
    (g.W.Words.ahead c.loop-wire.words)
    (dry_wire c.args.before c.args.count (g.W.Words.ahead c.args.words.now)) (omega arith)
    c.loop-wire.invariant)
