use Rattle.vk_verifier.specs.Verdicts.{refused_verdict}
use Rattle.vk_verifier.proofs.two_boards.as_two.Goals as goal

pub returns : goal.returns
returns c = c.told-found.ensures refused_verdict (λ _ _ is. is)
