use Rattle.page.proofs.call.page_run.Goals as goal

pub returns-in-Ok-clause-run : goal.returns-in-Ok-clause-run
returns-in-Ok-clause-run c given = record {
  left = c.in-Ok.ran.shelf.files;
  kept = c.in-Ok.ran.keeper.ledger;
  text = c.in-Ok.ran.out.taken;
  is = rw (c.hand_back.ensures.status given) c.in-Ok.ensures.run;
  begins = c.hand_back.ensures.begins given;
}
