use Rattle.std.proofs.Common.{◌∙◌, Ok, Err, ap, subst}
use Rattle.std.proofs.lemmas.Result.{err_from_is_err_and}
use Rattle.vk_effect.specs.Effects.{outside}
use Rattle.vk_ceremony.specs.Ceremonies.{EndsAll, closed}
use Rattle.vk_ceremony.proofs.closing.close.Goals as goal

pub returns-in_err-status-clause-ends : goal.returns-in_err-status-clause-ends
returns-in_err-status-clause-ends g c =
    let p = err_from_is_err_and c.from_residual-in_err-status.result
    c.from_residual-in_err-status.ensures.1 in
    rw (p.1 ∙ ap Err p.2) (λ old.
    subst (λ said. EndsAll (Err c.in_err-status.field-0.0) (closed said)
    (outside old (g.W.Sink.taken c.args.out.now)) (outside old (g.W.Sink.taken c.say.new.out)))
    c.in_ok-said.ensures (c.in_err-status.ensures.ends old))

pub returns-clause-ends : goal.returns-clause-ends
returns-clause-ends g c = λ old.
    subst (λ said. EndsAll (Ok c.in_ok-status.status) (closed said)
    (outside old (g.W.Sink.taken c.args.out.now)) (outside old (g.W.Sink.taken c.say.new.out)))
    c.in_ok-said.ensures (c.in_ok-status.ensures.ends old)
