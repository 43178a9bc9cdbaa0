use Rattle.std.proofs.Common.{rules}
use Rattle.vk_keeper_sql.specs.Statements.{seals_query}
use Rattle.vk_keeper_sql.specs.Unkept.{query_refused, clear_refused, add_refused}
use Rattle.vk_keeper_sql.proofs.Steps.{asked_as, done_as, run_behind, stopped_as}
use Rattle.vk_keeper_sql.proofs.seals.write_seals.Goals as goal

pub returns-in_err-held-clause-works : goal.returns-in_err-held-clause-works
unfolding seals_query
returns-in_err-held-clause-works g c =
    asked_as c.in_err-held.field-0.0 c.in_err-held.ensures.works query_refused (search rules)

pub returns-in_err-clear_seals-clause-works : goal.returns-in_err-clear_seals-clause-works
unfolding seals_query
returns-in_err-clear_seals-clause-works g c =
    stopped_as c.in_err-clear_seals.field-0.0
    (run_behind c.in_ok-held.ensures.works c.in_err-clear_seals.ensures.works)
    (λ why. clear_refused why.0 c.in_ok-held.held.items c.count_standing-standing.result why.1
    c.count_standing-standing.ensures.within
    (rw c.as_slice.ensures.value at c.count_standing-standing.ensures.stand) why.2) (search rules)

pub returns-in_err-add_seals-clause-works : goal.returns-in_err-add_seals-clause-works
unfolding seals_query
returns-in_err-add_seals-clause-works g c =
    stopped_as c.in_err-add_seals.field-0.0
    (run_behind c.in_ok-held.ensures.works (run_behind c.in_ok-clear_seals.ensures.works
    (rw c.split_at.ensures.back at c.in_err-add_seals.ensures.works)))
    (λ why. add_refused why.0 why.2.0 c.in_ok-held.held.items c.count_standing-standing.result
    why.1 c.count_standing-standing.ensures.within
    (rw c.as_slice.ensures.value at c.count_standing-standing.ensures.stand) why.2.1 why.2.2)
    (search rules)

pub returns-clause-works : goal.returns-clause-works
unfolding seals_query
returns-clause-works g c =
    done_as (run_behind c.in_ok-held.ensures.works (run_behind c.in_ok-clear_seals.ensures.works
    (rw c.split_at.ensures.back at c.in_ok-add_seals.ensures.works))) (λ all. record {
      asked = all.0;
      cleared = all.2.0;
      held = c.in_ok-held.held.items;
      standing = c.count_standing-standing.result;
      query = all.1;
      within = c.count_standing-standing.ensures.within;
      stand = rw c.as_slice.ensures.value at c.count_standing-standing.ensures.stand;
      clear = all.2.1;
      add = all.2.2;
    })
