use Rattle.std.proofs.Common.{rules, arith}
use Rattle.vk_keeper.specs.declared.auction.Phase.TheVariants.{Proved}
use Rattle.vk_keeper.proofs.Rows.{in_phase}
use Rattle.vk_house_tests.proofs.tests.keeper.proved.Goals as goal

pub returns : goal.returns
returns c = in_phase c.in_ok-auction.auction (Proved c.args.seed.now) c.in_ok-auction.ensures.right
    (omega (arith, c.in_ok-auction.ensures.seals)) (search rules) tt tt
