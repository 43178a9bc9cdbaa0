use Rattle.std.proofs.Common.{◌≡◌, ◌+◌, ◌∙◌, arith, drop, rules}
use Rattle.std.proofs.lemmas.List.{drop_all}
use Rattle.vk_keeper_sql.specs.Writing.{adding}
use Rattle.vk_keeper_sql.proofs.Steps.{first_refused, none_run, rest_at, run_first}
use Rattle.vk_keeper_sql.proofs.seals.add_seals.Goals as goal

pub loop-i-init : goal.loop-i-init
loop-i-init g c = record {
  same_reference = search rules;
  works = λ new result rest. let same : c.args.before + 0 ≡ c.args.before = omega arith in
      rw same at rest;
}

pub loop-i-preserved : goal.loop-i-preserved
loop-i-preserved g c =
    let i = c.loop-i.i in
    let seals = c.args.seals.now in
    let left = rest_at seals i c.index-seals-i.result c.loop-i-test.true c.index-seals-i.is in
    let works = rw left at c.loop-i.invariant.works in
    let next : c.args.before + (i + 1) ≡ c.args.before + i + 1 = omega arith in
    record {
      same_reference = c.add_seal.ensures.same_reference ∙ c.loop-i.invariant.same_reference;
      works = λ new result rest. works new result
          (run_first (adding c.args.id.now (c.args.before + i + 1) (drop (i + 1) seals))
          c.in_ok-add_seal.ensures.works (rw next at rest));
    }

pub returns-in_err-add_seal-clause-works : goal.returns-in_err-add_seal-clause-works
returns-in_err-add_seal-clause-works g c =
    let i = c.loop-i.i in
    let seals = c.args.seals.now in
    let left = rest_at seals i c.index-seals-i.result c.loop-i-test.true c.index-seals-i.is in
    let works = rw left at c.loop-i.invariant.works in
    works _ _ (first_refused (adding c.args.id.now (c.args.before + i + 1) (drop (i + 1) seals))
    c.in_err-add_seal.ensures.works (search rules))

pub returns-clause-works : goal.returns-clause-works
returns-clause-works g c =
    let works = rw (drop_all c.loop-i.i c.args.seals.now c.loop-i-test.false) at
    c.loop-i.invariant.works in
    works _ _ none_run
