-- The promises of `run`, of no auction and no text before it.
use Rattle.page.proofs.Counts.{never_rose}
use Rattle.page.proofs.call.run_over.Goals as goal

-- no count of these can rise, so the run didn't fail
pub returns-clause-ended : goal.returns-clause-ended
returns-clause-ended c =
    (λ failed. never_rose (c.run-status.ensures.fault failed), c.if-status-eq9.false)

pub returns-clause-run : goal.returns-clause-run
returns-clause-run c =
    let keeps = c.new-keeper.ensures in
    let prints = c.new-out.ensures in
    let run = c.run-status.ensures in
    record {
      done = rw (keeps, prints) at run.done;
      sound = rw (prints) at run.sound;
      complete = run.complete;
      headline = rw (prints) at run.headline;
      claim_sound = rw (prints) at run.claim_sound;
      claim_complete = run.claim_complete;
      claim_headline = rw (prints) at run.claim_headline;
      audits = rw (prints) at run.audits;
      claims = rw (prints) at run.claims;
      seals = rw (prints) at run.seals;
      coins = rw (prints) at run.coins;
      matching = rw (keeps, prints) at run.matching;
      house = rw (keeps, prints) at run.house;
      ceremony = rw (keeps, prints) at run.ceremony;
      leaves = run.files;
      parts = run.parts;
      usage = rw (prints) at run.usage;
    }
