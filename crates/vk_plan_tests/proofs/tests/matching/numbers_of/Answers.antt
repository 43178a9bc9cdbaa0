use Rattle.std.proofs.Common.{◌≡◌, ◌∷◌, ◌∙◌, List, ℕ, ap, length, refl, sym, subst}
use Rattle.vk_matching.specs.MatchingPlans.{IsMatchingClaim}
use Rattle.vk_matching.specs.Stability.{IsStable}
use Rattle.vk_plan_tests.proofs.tests.matching.numbers_of.Goals as goal

pub returns : goal.returns
returns c =
    let matching : List ℕ = c.in_ok-matching.matching.items in
    let ranks : List ℕ = c.args.ranks.now in
    let are : c.in_ok-numbers.numbers.items ≡ c.args.width ∷ matching =
    c.in_ok-numbers.ensures ∙ ap (λ women. c.args.width ∷ women) c.as_slice.ensures.value in
    let claim : IsMatchingClaim (length ranks) (c.args.width ∷ matching) ranks = record {
      one_each = refl;
      within_width = c.requires.within;
      stable = subst (λ size. IsStable size ranks matching)
          (sym c.in_ok-matching.ensures.permutation.one_each) c.in_ok-matching.ensures.stable;
    } in
    subst (λ numbers. IsMatchingClaim (length ranks) numbers ranks) (sym are) claim
