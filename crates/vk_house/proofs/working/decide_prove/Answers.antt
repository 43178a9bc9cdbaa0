use Rattle.std.proofs.Common.{rules, subst}
use Rattle.vk_house.specs.Deciding.{Decides, step_of}
use Rattle.vk_house.proofs.Deciding.{prove_step, prove_unrefused}
use Rattle.vk_house.proofs.working.decide_prove.Goals as goal

pub returns-clause-decided : goal.returns-clause-decided
returns-clause-decided c =
    subst (Decides step_of c.work_in-decision.result)
    (prove_step c.in_ok-auction.auction c.args.found.auction c.proved_phase-phase.result
    c.args.found.id c.args.seed.now
    (search rules) c.in_ok-check_seals.ensures c.in_ok-check_seed.ensures
    c.proved_phase-phase.ensures)
    c.work_in-decision.ensures.decided

pub returns-clause-memory : goal.returns-clause-memory
returns-clause-memory c = λ is.
    prove_unrefused c.in_ok-auction.auction c.args.found.auction c.proved_phase-phase.result
    c.args.found.id c.args.seed.now (search rules) c.in_ok-check_seals.ensures
    c.in_ok-check_seed.ensures c.proved_phase-phase.ensures (c.work_in-decision.ensures.memory is)
