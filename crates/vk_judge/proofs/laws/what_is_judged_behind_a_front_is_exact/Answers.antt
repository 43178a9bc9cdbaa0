use Rattle.vk_judge.proofs.Exact.{behind_is_exact}
use Rattle.vk_judge.proofs.laws.what_is_judged_behind_a_front_is_exact.Goals as goal

pub returns : goal.returns
returns c = behind_is_exact
