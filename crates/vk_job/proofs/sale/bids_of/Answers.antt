use Rattle.std.proofs.Common.{◌++◌, [], ◌∷◌, add-one, ap, arith, get_or, map, rules, sym, take, ◌∙◌}
use Rattle.std.proofs.Math.Seq.{take-suc}
use Rattle.std.proofs.lemmas.List.{get_or-map, length-map, take_more_set}
use Rattle.vk_job.proofs.sale.bids_of.Goals as goal

pub loop-index-preserved : goal.loop-index-preserved
loop-index-preserved c =
    let index = c.loop-index.index in
    let row = c.index-rows-index.result in
    let rows = c.args.rows.now in
    let all = map (λ row. row.secret.bid) rows in
    let bid = (get_or rows index row).secret.bid in
    record {
      room = search rules;
      so_far =
          take_more_set c.loop-index.bids index bid (omega (arith, c.loop-index.invariant.room))
          ∙ ap (λ front. front ++ bid ∷ []) c.loop-index.invariant.so_far
          ∙ ap (λ last. take index all ++ last ∷ [])
          (sym (get_or-map (λ row. row.secret.bid) rows index row 0 (omega arith)))
          ∙ sym (ap (λ n. take n all) (add-one index)
          ∙ take-suc all index 0 (omega (arith, length-map rows (λ row. row.secret.bid))));
    }
