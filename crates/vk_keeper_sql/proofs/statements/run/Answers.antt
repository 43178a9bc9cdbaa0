use Rattle.std.proofs.Common.{◌≡◌, Bool, true, false, IsTrue, refl, rules}
use Rattle.vk_keeper_sql.specs.Transactions.{Ran}
use Rattle.vk_keeper_sql.proofs.statements.run.Goals as goal

is_inside : (inside : Bool) → (inside ≡ false → ⊥) → IsTrue inside
is_inside true never = refl
is_inside false never = absurd (never refl)

pub returns-in-Ok-clause-works : goal.returns-in-Ok-clause-works
unfolding Ran
returns-in-Ok-clause-works g c = record {
  done = λ clean. (
    c.in-Ok.field-0,
    c.in-Ok.ensures.runs clean
        (is_inside _ (λ outside. let refused = (c.in-Ok.ensures.ended outside).0 in cc)),
  );
  refused = λ clean. tt;
  crash = search rules;
  stays = search rules;
}

pub returns-in-Err-clause-works : goal.returns-in-Err-clause-works
returns-in-Err-clause-works g c = record {
  done = λ clean. tt;
  refused = λ clean. record {
    stops = λ inside. record {
      error = c.in-Err.error;
      step = c.in-Err.ensures.runs clean inside;
      is = c.refused_statement.ensures;
    };
  };
  crash = search rules;
  stays = search rules;
}
