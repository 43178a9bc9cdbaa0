use Rattle.std.proofs.Common.{◌-◌, arith}
use Rattle.vk_judge.proofs.Counts.{seals_have}
use Rattle.vk_judge.proofs.lane.case_of.Goals as goal

pub coms_of-requires : goal.coms_of-requires
coms_of-requires c = rw c.seals-2.ensures.value
    (seals_have c.args.statement.now (c.args.lane - 1) c.seals-2.ensures.right
    (omega (arith, c.requires.first, c.requires.last)))
