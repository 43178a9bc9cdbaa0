use Rattle.std.proofs.Common.{◌∙◌, Err, ap}
use Rattle.std.proofs.lemmas.Result.{err_from_is_err_and}
use Rattle.vk_ceremony.proofs.Taking.{heading_refused}
use Rattle.vk_ceremony.proofs.reading.begin_script.Goals as goal

pub returns-in_err-named_value-clause-modelled : goal.returns-in_err-named_value-clause-modelled
returns-in_err-named_value-clause-modelled g c =
    let p = err_from_is_err_and c.from_residual-in_err-named_value.result
    c.from_residual-in_err-named_value.ensures.1 in
    rw (p.1 ∙ ap Err p.2) (heading_refused c.args.script.now (g.S.Shelf.held c.args.shelf.now)
    (g.S.Shelf.held c.begin_named.new.shelf) c.in_ok-lines.lines c.read_fixed-heading.new.self
    c.read_fixed-heading.result c.in_err-named_value.field-0.0
    c.in_ok-lines.ensures.shelf.held c.in_ok-lines.ensures.modelled
    c.read_fixed-heading.ensures.reads.modelled c.in_err-named_value.ensures.modelled)
