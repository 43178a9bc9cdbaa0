use Rattle.std.proofs.Common.{[], drop, rules}
use Rattle.vk_keeper_sql.specs.Opening.{making}
use Rattle.vk_keeper_sql.specs.Statements.{make_about, make_auctions, make_seals, make_terms, first_number}
use Rattle.vk_keeper_sql.proofs.Steps.{first_refused, none_run, run_first}
use Rattle.vk_keeper_sql.proofs.tables.make_tables.Goals as goal

pub returns-clause-works : goal.returns-clause-works
unfolding make_about make_auctions make_seals make_terms first_number
returns-clause-works g c =
    run_first (drop 1 making) c.in_ok-run.ensures.works
    (run_first (drop 2 making) c.in_ok-run-2.ensures.works
    (run_first (drop 3 making) c.in_ok-run-3.ensures.works
    (run_first (drop 4 making) c.in_ok-run-4.ensures.works
    (run_first [] c.in_ok-run-5.ensures.works none_run))))

pub returns-in_err-run-clause-works : goal.returns-in_err-run-clause-works
unfolding make_about
returns-in_err-run-clause-works g c =
    first_refused (drop 1 making) c.in_err-run.ensures.works (search rules)

pub returns-in_err-run-2-clause-works : goal.returns-in_err-run-2-clause-works
unfolding make_about make_auctions
returns-in_err-run-2-clause-works g c =
    run_first (drop 1 making) c.in_ok-run.ensures.works
    (first_refused (drop 2 making) c.in_err-run-2.ensures.works (search rules))

pub returns-in_err-run-3-clause-works : goal.returns-in_err-run-3-clause-works
unfolding make_about make_auctions make_seals
returns-in_err-run-3-clause-works g c =
    run_first (drop 1 making) c.in_ok-run.ensures.works
    (run_first (drop 2 making) c.in_ok-run-2.ensures.works
    (first_refused (drop 3 making) c.in_err-run-3.ensures.works (search rules)))

pub returns-in_err-run-4-clause-works : goal.returns-in_err-run-4-clause-works
unfolding make_about make_auctions make_seals make_terms
returns-in_err-run-4-clause-works g c =
    run_first (drop 1 making) c.in_ok-run.ensures.works
    (run_first (drop 2 making) c.in_ok-run-2.ensures.works
    (run_first (drop 3 making) c.in_ok-run-3.ensures.works
    (first_refused (drop 4 making) c.in_err-run-4.ensures.works (search rules))))

pub returns-in_err-run-5-clause-works : goal.returns-in_err-run-5-clause-works
unfolding make_about make_auctions make_seals make_terms first_number
returns-in_err-run-5-clause-works g c =
    run_first (drop 1 making) c.in_ok-run.ensures.works
    (run_first (drop 2 making) c.in_ok-run-2.ensures.works
    (run_first (drop 3 making) c.in_ok-run-3.ensures.works
    (run_first (drop 4 making) c.in_ok-run-4.ensures.works
    (first_refused (drop 5 making) c.in_err-run-5.ensures.works (search rules)))))
