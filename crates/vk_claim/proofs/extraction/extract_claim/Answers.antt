use Rattle.vk_claim.proofs.Opening.{claims_shown}
use Rattle.vk_claim.proofs.extraction.extract_claim.Goals as goal

pub returns-clause-shows : goal.returns-clause-shows
returns-clause-shows g c =
    let circuits = c.args.circuits.now in
    claims_shown (g.Q.Circuits.admitted circuits) (g.Q.Circuits.claim circuits)
    (g.met.Q.Circuits.sound circuits) c.in_ok-opened.opened c.in_ok-opened.ensures.right
    c.in_ok-found.found c.in_ok-found.ensures.opens
