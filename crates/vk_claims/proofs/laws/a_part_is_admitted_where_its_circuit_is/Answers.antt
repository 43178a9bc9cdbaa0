use Rattle.vk_words.specs.declared.claim.Kind.TheVariants.{Uniform, Matching}
use Rattle.vk_claims.specs.Circuits.{claimed}
use Rattle.vk_claims.proofs.Parts.{admits}
use Rattle.vk_claims.proofs.laws.a_part_is_admitted_where_its_circuit_is.Goals as goal

pub returns : goal.returns
unfolding claimed
returns c = record { uniform = admits Uniform; matching = admits Matching }
