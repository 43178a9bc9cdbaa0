use Rattle.std.proofs.Common.{◌+◌, ◌-◌, length, slice_index, refl, ap, ◌∙◌, arith}
use Rattle.vk_range.specs.SetLaws.{length_listed}
use Rattle.vk_matching.specs.Couples.{husband_of, husband_is, husband_read}
use Rattle.vk_matching.proofs.plan.MatchingPlan.husband.Goals as goal

pub bounds-as_slice-woman : goal.bounds-as_slice-woman
bounds-as_slice-woman c =
    let wives = c.args.self.now.wives in
    let long = ap length (c.as_slice.ensures ∙ c.args.self.now.couples) in
    omega (
      arith,
      long,
      length_listed (λ place. husband_of wives (place + 1)) (length wives),
      c.requires.some,
      c.requires.within,
    )

pub returns-clause-husband : goal.returns-clause-husband
returns-clause-husband c =
    let wives = c.args.self.now.wives in
    ap (λ husbands. slice_index husbands (c.args.woman - 1))
    (c.as_slice.ensures ∙ c.args.self.now.couples)
    ∙ husband_read (length wives) c.args.woman wives refl c.requires

pub returns-clause-person : goal.returns-clause-person
returns-clause-person c =
    let wives = c.args.self.now.wives in
    rw (c.as_slice.ensures ∙ c.args.self.now.couples)
    (rw (husband_read (length wives) c.args.woman wives refl c.requires)
    (husband_is (length wives) wives c.args.self.now.in_limits.permutation c.args.woman
    c.requires).0)
