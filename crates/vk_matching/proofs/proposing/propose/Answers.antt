use Rattle.std.proofs.Common.{subst, ◌∙◌}
use Rattle.vk_matching.specs.Stability.{IsPermutation, IsStable}
use Rattle.vk_matching.proofs.Proposed.{all_matched, none_blocks}
use Rattle.vk_matching.proofs.proposing.propose.Goals as goal

pub returns-clause-permutation : goal.returns-clause-permutation
returns-clause-permutation c =
    subst (λ size. IsPermutation size c.in_ok-matching.matching.items)
    (c.settle.ensures.size ∙ c.in_ok-courtship.ensures.size)
    (all_matched c.settle.ensures.courting c.settle.ensures.all c.in_ok-matching.ensures)

pub returns-clause-stable : goal.returns-clause-stable
returns-clause-stable c =
    subst (λ size. IsStable size c.args.ranks.now c.in_ok-matching.matching.items)
    (c.settle.ensures.size ∙ c.in_ok-courtship.ensures.size)
    (none_blocks c.settle.ensures.courting c.settle.ensures.all c.in_ok-matching.ensures)
