use Rattle.std.proofs.Common.{rules, arith}
use Rattle.vk_keeper.specs.declared.auction.Phase.TheVariants.{Answered}
use Rattle.vk_keeper.proofs.Rows.{in_phase}
use Rattle.vk_house_tests.proofs.tests.job.answered.Goals as goal

pub returns-clause-right : goal.returns-clause-right
returns-clause-right c =
    in_phase c.in_ok-auction.auction (Answered c.args.seed.now c.in_ok-challenge.challenge)
    c.in_ok-auction.ensures.right (omega (arith, c.in_ok-auction.ensures.seals)) (search rules)
    c.in_ok-challenge.ensures.challenge
    (omega (arith, c.in_ok-challenge.ensures.bits, c.in_ok-auction.ensures.lanes))
