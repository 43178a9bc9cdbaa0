use Rattle.std.proofs.Common.{rules}
use Rattle.vk_judge.proofs.TwoFound.{second_found}
use Rattle.vk_judge.proofs.two_lane.begin_second.Goals as goal

pub returns-clause-modelled : goal.returns-clause-modelled
returns-clause-modelled g c =
    second_found _ _ _ _ _ _ _ _ _ c.read_attempt-attempt.ensures.shelf.held
    c.is_refused-asked.ensures
    c.of_second-second.ensures.found (search rules) c.judge_on-first.ensures.modelled
