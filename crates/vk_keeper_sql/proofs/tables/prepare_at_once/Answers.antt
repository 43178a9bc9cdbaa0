use Rattle.std.proofs.Common.{◌≡◌, ◌∙◌, Err, ap, refl, rules}
use Rattle.vk_keeper_sql.specs.Opening.{Prepares}
use Rattle.vk_keeper_sql.specs.Refusals.{open_refusal}
use Rattle.vk_keeper_sql.specs.Unopened.{not_prepared, not_committed}
use Rattle.vk_keeper_sql.proofs.AtOnce.{done_at_once, failed_at_once, undone_at_once}
use Rattle.vk_keeper_sql.proofs.tables.prepare_at_once.Goals as goal

pub returns-in_err-prepare_within : goal.returns-in_err-prepare_within
returns-in_err-prepare_within g c =
    let old = c.args.connection.now in
    let refusal = c.in_err-prepare_within.field-0.0 in
    let is : c.from_residual.result ≡ Err refusal = search rules in
    let end = c.drop-transaction.ensures in
    let whole = undone_at_once g.S.Store old _ c.prepare_within.new.transaction.conn.now
    c.drop-transaction.new.self.0 c.connection-1.given.0 c.transaction-transaction.ensures.begun
    (search rules) (Prepares g.S.Store old) c.from_residual.result
    c.from_residual.ensures.0 c.in_err-prepare_within.ensures.works end.survives end.undone in
    record {
      crash = whole.0;
      causes = rw is (λ clean.
          let why = whole.1 clean in
          not_prepared c.args.layout _ c.requires.layout why.0 why.1);
    }

pub returns-in-Err : goal.returns-in-Err
returns-in-Err g c =
    let old = c.args.connection.now in
    let last = c.prepare_within.new.transaction.conn.now in
    let whole = failed_at_once g.S.Store old _ last c.commit.new.self.0 c.connection-2-1.given.0
    c.transaction-transaction.ensures.begun (search rules) (Prepares g.S.Store old)
    c.from.result c.in_ok-prepare_within.ensures.works
    (λ made. (c.args.layout, c.requires.layout, (last, made, refl)))
    c.commit.ensures.survives c.in-Err.ensures.err in
    record {
      crash = whole.0;
      causes = λ clean.
          let why = whole.1 clean in
          not_committed c.args.layout last _ c.requires.layout why.0 why.1
          (c.from.ensures ∙ ap open_refusal c.refused_statement.ensures);
    }

pub returns-in-Ok : goal.returns-in-Ok
returns-in-Ok g c =
    let old = c.args.connection.now in
    let last = c.prepare_within.new.transaction.conn.now in
    record {
      crash = done_at_once g.S.Store old _ last c.commit.new.self.0 c.connection-2-1.given.0
          c.transaction-transaction.ensures.begun (search rules) (Prepares g.S.Store old)
          c.in_ok-prepare_within.ensures.works
          (λ made. (c.args.layout, c.requires.layout, (last, made, refl)))
          c.commit.ensures.survives (λ clean. (c.in-Ok.ensures.ok clean).1);
      causes = λ clean. tt;
    }
