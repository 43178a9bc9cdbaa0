use Rattle.vk_judge.proofs.FileForms.{finds_by_both}
use Rattle.vk_judge.proofs.two_laws.a_finding_is_by_both_replies.Goals as goal

pub returns : goal.returns
returns g c = finds_by_both
