use Rattle.std.proofs.Common.{refl, sym, rules}
use Rattle.vk_keeper_sql.specs.Refusals.{open_refusal}
use Rattle.vk_keeper_sql.specs.Statements.{number_query}
use Rattle.vk_keeper_sql.specs.Unopened.{query_refused, other_number}
use Rattle.vk_keeper_sql.proofs.Steps.{done_as, found_otherwise, refused_as}
use Rattle.vk_keeper_sql.proofs.tables.number_in.Goals as goal

pub returns-clause-works : goal.returns-clause-works
unfolding number_query
returns-clause-works g c = done_as c.in_ok-rows.ensures.works (λ query. record {
  rows = c.in_ok-rows.rows.items;
  query = query;
  shown = sym (rw c.as_slice.ensures.value at c.in_ok-number.ensures);
})

pub returns-in_err-rows-clause-works : goal.returns-in_err-rows-clause-works
unfolding number_query
returns-in_err-rows-clause-works g c =
    let told = c.in_err-rows.field-0.0 in
    refused_as (open_refusal told) c.in_err-rows.ensures.works (λ why. query_refused told why refl)
    (search rules)

pub returns-in_err-number-clause-works : goal.returns-in_err-number-clause-works
unfolding number_query
returns-in_err-number-clause-works g c =
    found_otherwise c.in_err-number.field-0.0 c.in_ok-rows.ensures.works
    (λ query. other_number c.in_ok-rows.rows.items query
    (sym (rw c.as_slice.ensures.value at c.in_err-number.ensures))) (search rules)
