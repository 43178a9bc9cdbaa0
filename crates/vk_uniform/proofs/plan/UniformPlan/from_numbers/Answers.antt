use Rattle.std.proofs.Common.{◌≡◌, [], refl, sym, ap, ◌∙◌, arith}
use Rattle.std.proofs.lemmas.Bool.{false≢true, both_ways}
use Rattle.std.proofs.lemmas.List.{take_rest}
use Rattle.vk_uniform.specs.Losers.{losers}
use Rattle.vk_uniform.specs.UniformPlans.{winners_of}
use Rattle.vk_uniform.specs.UniformLaws.{made_in_limits, made_free, price_below_modulus}
use Rattle.vk_uniform.proofs.plan.UniformPlan.from_numbers.Goals as goal

pub returns-in-None-clause-admitted : goal.returns-in-None-clause-admitted
returns-in-None-clause-admitted c = (
  λ e. absurd (false≢true e),
  λ case. absurd (omega (
    arith,
    price_below_modulus c.args.inputs c.args.numbers.now case,
    c.in-None.ensures.refused.0 refl,
  )),
)

pub returns-then-not-may_be_paid-clause-admitted : goal.returns-then-not-may_be_paid-clause-admitted
returns-then-not-may_be_paid-clause-admitted c =
    let inputs = c.args.inputs in
    let numbers = c.args.numbers.now in
    let winners = c.in_ok-winners.winners.items in
    let outside = c.in_ok-losers.losers.items in
    let limits = c.are_in_limits.ensures.0 c.if-not-are_in_limits.false in
    let winners_are : winners ≡ winners_of numbers = c.in_ok-winners.ensures ∙ take_rest numbers 2
    in
    let outside_are : outside ≡ losers inputs winners =
    c.in_ok-losers.ensures ∙ ap (losers inputs) c.as_slice.ensures.value in (
      λ e. absurd (false≢true e),
      λ case. absurd (both_ways c.may_be_paid.result c.if-not-may_be_paid.true
          (c.may_be_paid.ensures.1 (λ empty.
          made_free inputs c.in-Some.price numbers winners outside limits c.in-Some.ensures.value
          winners_are outside_are case
          (sym c.as_slice-2.ensures.value ∙ empty)))),
    )

pub invariant_of-result : goal.invariant_of-result
invariant_of-result c =
    let inputs = c.args.inputs in
    let numbers = c.args.numbers.now in
    let price = c.in-Some.price in
    let winners = c.in_ok-winners.winners.items in
    let outside = c.in_ok-losers.losers.items in
    let limits = c.are_in_limits.ensures.0 c.if-not-are_in_limits.false in
    let winners_are : winners ≡ winners_of numbers = c.in_ok-winners.ensures ∙ take_rest numbers 2
    in
    let outside_are : outside ≡ losers inputs winners =
    c.in_ok-losers.ensures ∙ ap (losers inputs) c.as_slice.ensures.value in
    let free : outside ≡ [] → price ≡ 0 =
    λ empty. c.may_be_paid.ensures.0 c.if-not-may_be_paid.false (c.as_slice-2.ensures.value ∙ empty)
    in
    record {
      in_limits =
          rw c.from_vec.ensures
          (made_in_limits inputs price numbers winners outside limits c.in-Some.ensures.value
          winners_are
          outside_are free);
      outside = c.from_vec-2.ensures ∙ outside_are ∙ ap (losers inputs) (sym c.from_vec.ensures);
    }
