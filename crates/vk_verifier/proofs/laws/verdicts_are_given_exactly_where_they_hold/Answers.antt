use Rattle.vk_verifier.proofs.Verdicts.{verdicts_exact}
use Rattle.vk_verifier.proofs.laws.verdicts_are_given_exactly_where_they_hold.Goals as goal

pub returns : goal.returns
returns c = verdicts_exact
