use Rattle.std.proofs.Common.{rules}
use Rattle.vk_judge.specs.Two.{ends_found}
use Rattle.vk_judge.proofs.TwoFound.{ends_are}
use Rattle.vk_judge.proofs.two_lane.read_finding.Goals as goal

pub returns-clause-modelled : goal.returns-clause-modelled
unfolding ends_found
returns-clause-modelled g c =
    ends_are _ _ _ _ _ _ _ _ _ _ _ c.read_ends-first.ensures.shelf.held c.is_ok.ensures.value
    (search rules)
    c.found_by-found.ensures.found c.read_ends-first.ensures.modelled
    c.read_second_end-second.ensures.modelled
