use Rattle.std.proofs.Common.{IsSome, refl, subst, sym}
use Rattle.vk_matching.proofs.Courted.{has_choice, is_best, after_staying, after_taking}
use Rattle.vk_matching.proofs.courting.Courtship.ask.Goals as goal

pub unwrap-woman-requires : goal.unwrap-woman-requires
unwrap-woman-requires c = subst IsSome (sym (has_choice c.requires.courting c.choice.ensures).1)
    refl

pub returns-then-holds_as_good-clause-courting : goal.returns-then-holds_as_good-clause-courting
returns-then-holds_as_good-clause-courting c =
    let best = is_best c.requires.courting c.unwrap-woman.ensures c.choice.ensures in
    after_staying c.requires.courting best c.place-question.ensures.place
    (c.holds_as_good.ensures.0 c.if-holds_as_good.true)

pub returns-clause-courting : goal.returns-clause-courting
returns-clause-courting c =
    let best = is_best c.requires.courting c.unwrap-woman.ensures c.choice.ensures in
    after_taking c.requires.courting best c.place-question.ensures.place c.index-before.ensures
    (λ as_good. let told = c.holds_as_good.ensures.1 as_good in cc)
