use Rattle.vk_judge.proofs.TwoLaw.{finds_by_judging}
use Rattle.vk_judge.proofs.two_laws.a_finding_is_by_judging_both.Goals as goal

pub returns : goal.returns
returns c = finds_by_judging
