use Rattle.vk_extractor.proofs.Clashes.{clash_opens}
use Rattle.vk_extractor.proofs.laws.clashes_are_two_openings.Goals as goal

pub returns : goal.returns
returns c plan case zero one firsts seconds two first second found =
    clash_opens plan case zero one firsts seconds two first second found
