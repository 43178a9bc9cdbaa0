use Rattle.std.proofs.Common.{◌≡◌, take}
use Rattle.vk_judge.specs.Behind.{input_coms}
use Rattle.vk_judge.proofs.lane.coms_of.Given as goal

abbrev pub invariant-loop-seal : goal.invariant-loop-seal
invariant-loop-seal l = l.coms.items ≡ input_coms l.index (take l.seal-index l.seals)
