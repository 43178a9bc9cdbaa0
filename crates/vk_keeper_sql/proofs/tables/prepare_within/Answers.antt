use Rattle.std.proofs.Common.{refl, rules}
use Rattle.vk_keeper_sql.specs.declared.errors.OpenErr.TheVariants.{Refused}
use Rattle.vk_keeper_sql.specs.Refusals.{open_refusal}
use Rattle.vk_keeper_sql.specs.Unopened.{StopsFrom}
use Rattle.vk_keeper_sql.proofs.Steps.{asked_as, done_as, found_otherwise, run_behind, stopped_as}
use Rattle.vk_keeper_sql.proofs.tables.prepare_within.Goals as goal

pub returns-in_ok-lift-in-First-clause-works : goal.returns-in_ok-lift-in-First-clause-works
returns-in_ok-lift-in-First-clause-works g c =
    rw c.in-First.is
    (done_as (run_behind c.in_ok-check_number-in-First.ensures.works
    c.in_ok-lift-in-First.ensures.works) (λ both. both))

pub returns-in_err-make_tables-in-Blank-clause-works :
    goal.returns-in_err-make_tables-in-Blank-clause-works
returns-in_err-make_tables-in-Blank-clause-works g c =
    let told = c.in_err-make_tables-in-Blank.field-0.0 in
    rw c.in-Blank.is (stopped_as (open_refusal told) c.in_err-make_tables-in-Blank.ensures.works
    (λ why. StopsFrom.not_made told why refl) (search rules))

pub returns-in_err-check_number-in-First-clause-works :
    goal.returns-in_err-check_number-in-First-clause-works
returns-in_err-check_number-in-First-clause-works g c =
    rw c.in-First.is (asked_as c.in_err-check_number-in-First.field-0.0
    c.in_err-check_number-in-First.ensures.works StopsFrom.not_first (search rules))

pub returns-in_err-lift-in-First-clause-works : goal.returns-in_err-lift-in-First-clause-works
returns-in_err-lift-in-First-clause-works g c =
    let told = c.in_err-lift-in-First.field-0.0 in
    rw c.in-First.is (stopped_as (open_refusal told)
    (run_behind c.in_ok-check_number-in-First.ensures.works c.in_err-lift-in-First.ensures.works)
    (λ why. StopsFrom.not_lifted why.0 told why.1 why.2 refl) (search rules))

pub returns-in_err-check_number-in-Second-clause-works :
    goal.returns-in_err-check_number-in-Second-clause-works
returns-in_err-check_number-in-Second-clause-works g c =
    rw c.in-Second.is (asked_as c.in_err-check_number-in-Second.field-0.0
    c.in_err-check_number-in-Second.ensures.works StopsFrom.not_second (search rules))

pub returns-in_err-_number-in-Other-clause-works :
    goal.returns-in_err-_number-in-Other-clause-works
returns-in_err-_number-in-Other-clause-works g c =
    rw c.in-Other.is (asked_as c.in_err-_number-in-Other.field-0.0
    c.in_err-_number-in-Other.ensures.works StopsFrom.not_numbered (search rules))

pub returns-in-Other-clause-works : goal.returns-in-Other-clause-works
returns-in-Other-clause-works g c =
    rw c.in-Other.is (found_otherwise Refused c.in_ok-_number-in-Other.ensures.works
    (λ numbered. record {
      stops = λ _. StopsFrom.anothers c.in_ok-_number-in-Other._number numbered refl;
    }) refl)
