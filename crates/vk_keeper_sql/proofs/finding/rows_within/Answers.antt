use Rattle.std.proofs.Common.{inl, inr, rules}
use Rattle.vk_keeper_sql.specs.Statements.{auction_query, terms_query, seals_query}
use Rattle.vk_keeper_sql.proofs.Steps.{ask_behind, done_as, refused_as}
use Rattle.vk_keeper_sql.proofs.finding.rows_within.Goals as goal

pub returns-in_err-heads-clause-works : goal.returns-in_err-heads-clause-works
unfolding auction_query
returns-in_err-heads-clause-works g c =
    refused_as c.in_err-heads.field-0.0 c.in_err-heads.ensures.works
    (λ why failed. (c.rows_under.new.transaction.conn.now, inl (rw failed at why))) (search rules)

pub returns-in_err-terms-clause-works : goal.returns-in_err-terms-clause-works
unfolding auction_query terms_query
returns-in_err-terms-clause-works g c =
    refused_as c.in_err-terms.field-0.0
    (ask_behind c.in_ok-heads.ensures.works c.in_err-terms.ensures.works)
    (λ why failed. (
      why.0,
      inr (c.in_ok-heads.heads.items, why.1, (c.rows_under-2.new.transaction.conn.now, inl (rw failed at why.2))),
    )) (search rules)

pub returns-in_err-seals-clause-works : goal.returns-in_err-seals-clause-works
unfolding auction_query terms_query seals_query
returns-in_err-seals-clause-works g c =
    refused_as c.in_err-seals.field-0.0
    (ask_behind c.in_ok-heads.ensures.works
    (ask_behind c.in_ok-terms.ensures.works c.in_err-seals.ensures.works))
    (λ why failed. (
      why.0,
      inr (
        c.in_ok-heads.heads.items,
        why.1,
        (
          why.2.0,
          inr (c.in_ok-terms.terms.items, why.2.1, (c.rows_under-3.new.transaction.conn.now, rw failed at why.2.2)),
        ),
      ),
    )) (search rules)

pub returns-clause-works : goal.returns-clause-works
unfolding auction_query terms_query seals_query
returns-clause-works g c =
    done_as (ask_behind c.in_ok-heads.ensures.works
    (ask_behind c.in_ok-terms.ensures.works c.in_ok-seals.ensures.works)) (λ all. record {
      one = all.0;
      two = all.2.0;
      last = c.rows_under-3.new.transaction.conn.now;
      head = all.1;
      term = all.2.1;
      seals = all.2.2;
    })
