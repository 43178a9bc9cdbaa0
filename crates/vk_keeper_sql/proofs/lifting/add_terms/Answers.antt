use Rattle.std.proofs.Common.{◌+◌, ◌∙◌, drop, rules}
use Rattle.std.proofs.lemmas.List.{drop_all}
use Rattle.vk_keeper_sql.specs.Opening.{filling}
use Rattle.vk_keeper_sql.proofs.Steps.{first_refused, none_run, rest_at, run_first}
use Rattle.vk_keeper_sql.proofs.lifting.add_terms.Goals as goal

pub loop-row-init : goal.loop-row-init
loop-row-init g c = record { same_reference = search rules; works = λ new result rest. rest }

pub loop-row-preserved : goal.loop-row-preserved
loop-row-preserved g c =
    let i = c.loop-row.row-index in
    let ids = c.args.ids.now in
    let left = rest_at ids i c.row-item.result c.loop-row-test.true c.row-item.is in
    let works = rw left at c.loop-row.invariant.works in
    record {
      same_reference = c.add_first_terms.ensures.same_reference
          ∙ c.loop-row.invariant.same_reference;
      works = λ new result rest. works new result (run_first (filling (drop (i + 1) ids))
          c.in_ok-add_first_terms.ensures.works rest);
    }

pub returns-in_err-add_first_terms-clause-works : goal.returns-in_err-add_first_terms-clause-works
returns-in_err-add_first_terms-clause-works g c =
    let i = c.loop-row.row-index in
    let ids = c.args.ids.now in
    let left = rest_at ids i c.row-item.result c.loop-row-test.true c.row-item.is in
    let works = rw left at c.loop-row.invariant.works in
    works _ _ (first_refused (filling (drop (i + 1) ids)) c.in_err-add_first_terms.ensures.works
    (search rules))

pub returns-clause-works : goal.returns-clause-works
returns-clause-works g c =
    let works = rw (drop_all c.loop-row.row-index c.args.ids.now c.loop-row-test.false) at
    c.loop-row.invariant.works in
    works _ _ none_run
