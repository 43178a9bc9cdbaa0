use Rattle.std.proofs.Common.{rules, ap, subst, ◌∙◌}
use Rattle.std.proofs.lemmas.Result.{IfOk-weaker}
use Rattle.vk_keeper.specs.Auctions.{challenge_of}
use Rattle.vk_house.specs.Deciding.{Decides, step_of}
use Rattle.vk_house.proofs.Deciding.{answer_step, answered_one, answer_dry_at_most}
use Rattle.vk_house.proofs.working.decide_answer.Goals as goal

pub returns-clause-decided : goal.returns-clause-decided
returns-clause-decided c =
    subst (Decides step_of c.work_in-decision.result)
    (answer_step c.in_ok-auction-2.auction c.args.found.auction c.in_ok-phase.phase
    c.args.found.id c.args.challenge.now
    (search rules) (search rules) (search rules) (search rules) c.in_ok-phase.ensures)
    c.work_in-decision.ensures.decided

pub returns-clause-answered : goal.returns-clause-answered
returns-clause-answered c =
    let one = answered_one c.in_ok-auction-2.auction c.in_ok-phase.phase c.args.challenge.now
    (search rules) (search rules) c.in_ok-phase.ensures in
    IfOk-weaker c.work_in-decision.result _ _
    (λ decision is. ap (λ auction. challenge_of auction.phase) is ∙ one)
    c.work_in-decision.ensures.job

pub returns-clause-memory : goal.returns-clause-memory
returns-clause-memory c = λ is.
    answer_dry_at_most c.in_ok-auction-2.auction c.args.found.auction c.args.found.id
    c.args.challenge.now
    (search rules) (search rules) (search rules) (search rules)

pub returns-in_err-phase-clause-memory : goal.returns-in_err-phase-clause-memory
returns-in_err-phase-clause-memory c = λ is.
    answer_dry_at_most c.in_ok-auction-2.auction c.args.found.auction c.args.found.id
    c.args.challenge.now
    (search rules) (search rules) (search rules) (search rules)
