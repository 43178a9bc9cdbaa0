use Rattle.std.proofs.Common.{length, ap, sym, ◌∙◌}
use Rattle.vk_uniform.specs.UniformPlans.{uniform_plan, uniform_values}
use Rattle.vk_claims.specs.Circuits.{plan_of}
use Rattle.vk_claims.proofs.ByKind.{claims, gives}
use Rattle.vk_claims.proofs.Matchings as matching
use Rattle.vk_claims.proofs.Sales as sale
use Rattle.vk_claims.specs.Claims.{values_of}
use Rattle.vk_claims.proofs.making.filled_by.Goals as goal

pub fill-requires-clause-claim : goal.fill-requires-clause-claim
fill-requires-clause-claim c =
    claims sale.circuit c.in-Uniform.is c.requires.right c.args.numbers.now c.requires.published
    c.len-inputs.ensures c.in_ok-circuit-in-Uniform.circuit
    c.in_ok-circuit-in-Uniform.ensures.admitted c.in_ok-circuit-in-Uniform.ensures.numbers
    c.as_slice.ensures

pub fill-requires-in-Matching-clause-claim : goal.fill-requires-in-Matching-clause-claim
fill-requires-in-Matching-clause-claim c =
    claims matching.circuit c.in-Matching.is c.requires.right c.args.numbers.now
    c.requires.published c.len-inputs.ensures c.in_ok-circuit-in-Matching.circuit
    c.in_ok-circuit-in-Matching.ensures.admitted c.in_ok-circuit-in-Matching.ensures.numbers
    c.as_slice-in-Matching.ensures

pub returns-in_ok-filled-in-Uniform : goal.returns-in_ok-filled-in-Uniform
returns-in_ok-filled-in-Uniform c =
    let case = c.args.case.now in
    let numbers = c.args.numbers.now in
    let given = gives sale.circuit c.in-Uniform.is c.requires.right numbers c.requires.published
    c.len-inputs.ensures c.in_ok-circuit-in-Uniform.circuit
    c.in_ok-circuit-in-Uniform.ensures.admitted c.in_ok-circuit-in-Uniform.ensures.numbers
    uniform_plan uniform_values c.in_ok-filled-in-Uniform.filled.plan
    c.in_ok-filled-in-Uniform.filled.values c.as_slice.ensures
    c.in_ok-filled-in-Uniform.ensures.plan c.in_ok-filled-in-Uniform.ensures.values in
    record {
      plan = given.0 ∙ ap (λ k. plan_of k (length case.seats) numbers)
          (sym c.in-Uniform.is);
      values = given.1 ∙ ap (λ k. values_of k (length case.seats) numbers case.bids)
          (sym c.in-Uniform.is);
    }
