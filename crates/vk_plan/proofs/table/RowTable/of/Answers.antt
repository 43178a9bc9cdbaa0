use Rattle.std.proofs.Common.{◌∙◌, ap, sym, ◌∷◌, ◌++◌, [], take, arith}
use Rattle.std.proofs.lemmas.List.{take_more}
use Rattle.std.proofs.lemmas.Option.{get_or_from_slice_get}
use Rattle.vk_plan.proofs.table.RowTable.of.Goals as goal

-- src/table.rt:34:9
pub loop-row-preserved : goal.loop-row-preserved
loop-row-preserved c =
    let rows = c.args.plan.now.rows in
    let row = c.loop-row.row in
    let here = c.row.result.now in (
      c.in_ok-push.ensures.flat,
      c.in_ok-push.ensures.rows ∙ ap (λ before. before ++ here ∷ []) c.loop-row.invariant.1
          ∙ sym (take_more rows row here
          (omega (arith, c.loop-row-test.true, c.rows-row-end.ensures.value))
          ∙ ap (λ form. take row rows ++ form ∷ [])
          (get_or_from_slice_get rows row here here c.row.ensures.value)),
    )
