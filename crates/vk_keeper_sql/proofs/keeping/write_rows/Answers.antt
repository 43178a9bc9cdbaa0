use Rattle.std.proofs.Common.{◌≡◌, ◌∙◌, ap, map, rules}
use Rattle.vk_rows.specs.Columns.{seal_texts}
use Rattle.vk_rows.specs.declared.texts.Texts.{Texts}
use Rattle.vk_keeper_sql.specs.Statements.{keep_auction, keep_terms}
use Rattle.vk_keeper_sql.specs.Unkept.{row_refused, terms_refused, seals_refused}
use Rattle.vk_keeper_sql.proofs.Steps.{done_as, run_behind, stopped_as}
use Rattle.vk_keeper_sql.proofs.keeping.write_rows.Goals as goal

pub returns-in_err-run-clause-works : goal.returns-in_err-run-clause-works
unfolding keep_auction
returns-in_err-run-clause-works g c =
    stopped_as c.in_err-run.field-0.0
    (rw c.auction_columns-row.ensures at c.in_err-run.ensures.works) row_refused (search rules)

pub returns-in_err-run-2-clause-works : goal.returns-in_err-run-2-clause-works
unfolding keep_auction keep_terms
returns-in_err-run-2-clause-works g c =
    let row = rw c.auction_columns-row.ensures at c.in_ok-run.ensures.works in
    let terms = rw c.terms_columns-terms.ensures at c.in_err-run-2.ensures.works in
    stopped_as c.in_err-run-2.field-0.0 (run_behind row terms)
    (λ why. terms_refused why.0 why.1 why.2) (search rules)

pub returns-in_err-write_seals-clause-works : goal.returns-in_err-write_seals-clause-works
unfolding keep_auction keep_terms
returns-in_err-write_seals-clause-works g c =
    let row = rw c.auction_columns-row.ensures at c.in_ok-run.ensures.works in
    let terms = rw c.terms_columns-terms.ensures at c.in_ok-run-2.ensures.works in
    let seals : c.as_slice.result.now ≡ map seal_texts c.args.auction.now.seals =
    c.as_slice.ensures ∙ ap (λ (t : Texts). t.seals) c.requires.texts in
    stopped_as c.in_err-write_seals.field-0.0 (run_behind row
    (run_behind terms (rw seals at c.in_err-write_seals.ensures.works)))
    (λ why. seals_refused why.0 why.2.0 why.1 why.2.1 why.2.2) (search rules)

pub returns-clause-works : goal.returns-clause-works
unfolding keep_auction keep_terms
returns-clause-works g c =
    let row = rw c.auction_columns-row.ensures at c.in_ok-run.ensures.works in
    let terms = rw c.terms_columns-terms.ensures at c.in_ok-run-2.ensures.works in
    let seals : c.as_slice.result.now ≡ map seal_texts c.args.auction.now.seals =
    c.as_slice.ensures ∙ ap (λ (t : Texts). t.seals) c.requires.texts in
    done_as (run_behind row
    (run_behind terms (rw seals at c.in_ok-write_seals.ensures.works))) (λ all. record {
      one = all.0;
      two = all.2.0;
      row = all.1;
      terms = all.2.1;
      seals = all.2.2;
    })
