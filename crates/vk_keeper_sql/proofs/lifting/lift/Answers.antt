use Rattle.std.proofs.Common.{rules}
use Rattle.vk_keeper_sql.specs.Statements.{make_terms, next_number, ids_query}
use Rattle.vk_keeper_sql.specs.Unopened.{make_refused, ids_refused, terms_refused, number_refused}
use Rattle.vk_keeper_sql.proofs.Steps.{ask_behind, asked_as, done_as, run_behind, stopped_as}
use Rattle.vk_keeper_sql.proofs.lifting.lift.Goals as goal

pub returns-in_err-run-clause-works : goal.returns-in_err-run-clause-works
unfolding make_terms
returns-in_err-run-clause-works g c =
    stopped_as c.in_err-run.field-0.0 c.in_err-run.ensures.works make_refused (search rules)

pub returns-in_err-ids-clause-works : goal.returns-in_err-ids-clause-works
unfolding make_terms ids_query
returns-in_err-ids-clause-works g c =
    asked_as c.in_err-ids.field-0.0
    (ask_behind c.in_ok-run.ensures.works c.in_err-ids.ensures.works)
    (λ why. ids_refused why.0 why.1 why.2) (search rules)

pub returns-in_err-add_terms-clause-works : goal.returns-in_err-add_terms-clause-works
unfolding make_terms ids_query
returns-in_err-add_terms-clause-works g c =
    stopped_as c.in_err-add_terms.field-0.0
    (run_behind c.in_ok-run.ensures.works (run_behind c.in_ok-ids.ensures.works
    (rw c.as_slice.ensures.value at c.in_err-add_terms.ensures.works)))
    (λ why. terms_refused why.0 why.2.0 c.in_ok-ids.ids.items why.1 why.2.1 why.2.2)
    (search rules)

pub returns-in_err-run-2-clause-works : goal.returns-in_err-run-2-clause-works
unfolding make_terms next_number ids_query
returns-in_err-run-2-clause-works g c =
    let filled = rw c.as_slice.ensures.value at c.in_ok-add_terms.ensures.works in
    stopped_as c.in_err-run-2.field-0.0
    (run_behind c.in_ok-run.ensures.works (run_behind c.in_ok-ids.ensures.works
    (run_behind filled c.in_err-run-2.ensures.works)))
    (λ why. number_refused why.0 why.2.0 why.2.2.0 c.in_ok-ids.ids.items why.1 why.2.1 why.2.2.1
    why.2.2.2) (search rules)

pub returns-clause-works : goal.returns-clause-works
unfolding make_terms next_number ids_query
returns-clause-works g c =
    let filled = rw c.as_slice.ensures.value at c.in_ok-add_terms.ensures.works in
    done_as (ask_behind c.in_ok-run.ensures.works (ask_behind c.in_ok-ids.ensures.works
    (run_behind filled c.in_ok-run-2.ensures.works))) (λ all. record {
      made = all.0;
      make = all.1;
      asked = all.2.0;
      ids = c.in_ok-ids.ids.items;
      query = all.2.1;
      filled = all.2.2.0;
      fill = all.2.2.1;
      number = all.2.2.2;
    })
