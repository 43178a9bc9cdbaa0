use Rattle.std.proofs.Common.{◌∙◌}
use Rattle.vk_matching.specs.Circuits.{inputs_of, numbers_of}
use Rattle.vk_words.specs.declared.claim.Kind.TheVariants.{Matching}
use Rattle.vk_claims.proofs.Parts.{part_is}
use Rattle.vk_claims.proofs.circuits.plan_of_matching.Goals as goal

pub returns : goal.returns
returns c =
    let of = c.in_ok-circuit.ensures in
    c.in_ok-plan.ensures ∙ part_is inputs_of numbers_of Matching c.args.inputs c.args.numbers.now
    c.in_ok-circuit.circuit of.admitted of.numbers
