use Rattle.std.proofs.Common.{rules}
use Rattle.vk_keeper_sql.proofs.Inside.{shown_stays, unanswered_keeps}
use Rattle.vk_keeper_sql.proofs.statements.ask.Goals as goal

pub returns-in-Ok-clause-works : goal.returns-in-Ok-clause-works
returns-in-Ok-clause-works g c = record {
  done = λ clean. c.in-Ok.ensures.ok clean;
  refused = λ clean. tt;
  crash = search rules;
  stays = λ clean inside.
      let both = shown_stays _ _ _ _ _ inside (c.in-Ok.ensures.ok clean) in
      record { kept = both.0; inside = both.1 };
}

pub returns-in-Err-clause-works : goal.returns-in-Err-clause-works
returns-in-Err-clause-works g c = record {
  done = λ clean. tt;
  refused = λ clean. record {
    error = c.in-Err.refusal;
    step = c.in-Err.ensures.err clean;
    is = c.refused_statement.ensures;
  };
  crash = search rules;
  stays = λ clean inside. record {
    kept = unanswered_keeps _ _ _ _ _ (c.in-Err.ensures.err clean);
    inside = tt;
  };
}
