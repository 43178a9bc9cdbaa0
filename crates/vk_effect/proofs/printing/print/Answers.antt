use Rattle.std.proofs.Common.{string_bytes}
use Rattle.std.proofs.lemmas.Result.{err_from_is_err_and}
use Rattle.vk_effect.proofs.PrintingLemmas.{lines_at_stop}
use Rattle.vk_effect.proofs.printing.print.Goals as goal

pub returns-in_err-put-clause-printed : goal.returns-in_err-put-clause-printed
returns-in_err-put-clause-printed g c =
    let p = err_from_is_err_and c.from_residual.result c.from_residual.ensures.1 in
    rw p.1 (lines_at_stop string_bytes c.args.lines.now c.loop-line.line-index c.line-item.result
    c.as_bytes.result.now c.in_err-put.field-0.0 p.0 _ _ _ c.loop-line-test.true c.line-item.is
    c.as_bytes.ensures.value c.loop-line.invariant.taken c.in_err-put.ensures.put)
