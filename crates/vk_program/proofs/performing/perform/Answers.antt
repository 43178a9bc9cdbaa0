use Rattle.std.proofs.Common.{◌∙◌, ap}
use Rattle.vk_program.specs.Statuses.{status_behind}
use Rattle.vk_program.proofs.performing.perform.Goals as goal

pub returns : goal.returns
returns g c =
    let run = c.run-status.ensures in
    record {
      ran = c.run-status.result;
      faults = g.S.Shelf.faults c.run-status.new.shelf;
      settled = c.settle-settled.result;
      run = rw c.settle-settled.ensures.held record {
        done = run.done;
        stopped = run.stopped;
        sound = run.sound;
        complete = run.complete;
        headline = run.headline;
        audits = run.audits;
        claim_sound = run.claim_sound;
        claim_complete = run.claim_complete;
        claim_headline = run.claim_headline;
        claims = run.claims;
        matching = run.matching;
        coins = run.coins;
        seals = run.seals;
        house = run.house;
        ceremony = run.ceremony;
        leaves = run.files;
        parts = run.parts;
        usage = run.usage;
        once = run.once;
        keeper = run.keeper;
        fault = run.fault;
        no_fault = run.no_fault;
      };
      causes = c.settle-settled.ensures.causes;
      status_is = c.with_refusal-code.ensures
          ∙ ap (status_behind c.settle-settled.result) c.end-ran.ensures;
    }
