use Rattle.std.proofs.Common.{◌≡◌, Err, refl, rules}
use Rattle.vk_keeper_sql.specs.Unkept.{not_written, not_committed}
use Rattle.vk_keeper_sql.specs.Writing.{Keeps}
use Rattle.vk_keeper_sql.proofs.AtOnce.{done_at_once, failed_at_once, undone_at_once}
use Rattle.vk_keeper_sql.proofs.keeping.write_at_once.Goals as goal

pub returns-in_err-write_rows : goal.returns-in_err-write_rows
returns-in_err-write_rows g c =
    let old = c.args.connection.now in
    let told = c.in_err-write_rows.field-0.0 in
    let is : c.from_residual.result ≡ Err told = search rules in
    let end = c.drop-transaction.ensures in
    let whole = undone_at_once g.S.Store old _ c.write_rows.new.transaction.conn.now
    c.drop-transaction.new.self.0 c.connection-1.given.0 c.transaction-transaction.ensures.begun
    (search rules) (Keeps g.S.Store c.args.auction.now old) c.from_residual.result
    c.from_residual.ensures.0 c.in_err-write_rows.ensures.works end.survives end.undone in
    record {
      crash = whole.0;
      refused = rw is (λ clean. let why = whole.1 clean in not_written _ why.0 why.1);
    }

pub returns-in-Err : goal.returns-in-Err
returns-in-Err g c =
    let old = c.args.connection.now in
    let last = c.write_rows.new.transaction.conn.now in
    let whole = failed_at_once g.S.Store old _ last c.commit.new.self.0 c.connection-2-1.given.0
    c.transaction-transaction.ensures.begun (search rules) (Keeps g.S.Store c.args.auction.now old)
    c.refused_statement.result c.in_ok-write_rows.ensures.works (λ wrote. (last, wrote, refl))
    c.commit.ensures.survives c.in-Err.ensures.err in
    record {
      crash = whole.0;
      refused = λ clean.
          let why = whole.1 clean in not_committed last _ why.0 why.1 c.refused_statement.ensures;
    }

pub returns-in-Ok : goal.returns-in-Ok
returns-in-Ok g c =
    let old = c.args.connection.now in
    let last = c.write_rows.new.transaction.conn.now in
    record {
      crash = done_at_once g.S.Store old _ last c.commit.new.self.0 c.connection-2-1.given.0
          c.transaction-transaction.ensures.begun (search rules)
          (Keeps g.S.Store c.args.auction.now old) c.in_ok-write_rows.ensures.works
          (λ wrote. (last, wrote, refl)) c.commit.ensures.survives
          (λ clean. (c.in-Ok.ensures.ok clean).1);
      refused = λ clean. tt;
    }
