use Rattle.vk_claim.specs.Verdicts.{refused_verdict}
use Rattle.vk_claim.proofs.two.as_claim_finding.Goals as goal

pub returns : goal.returns
returns c = c.told-found.ensures refused_verdict (λ _ _ is. is)
