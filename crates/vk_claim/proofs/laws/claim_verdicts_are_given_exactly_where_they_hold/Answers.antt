use Rattle.vk_claim.proofs.Verdicts.{verdicts_exact}
use Rattle.vk_claim.proofs.laws.claim_verdicts_are_given_exactly_where_they_hold.Goals as goal

pub returns : goal.returns
returns g c circuits = verdicts_exact (g.Q.Circuits.admitted circuits)
    (g.met.Q.Circuits.is_plan circuits)
