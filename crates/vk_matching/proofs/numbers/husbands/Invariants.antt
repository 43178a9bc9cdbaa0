use Rattle.vk_matching.proofs.Husbands.{AreEntered}
use Rattle.vk_matching.proofs.numbers.husbands.Given as goal

abbrev pub invariant-loop-place : goal.invariant-loop-place
invariant-loop-place l = AreEntered l.wives l.husbands.items l.place
