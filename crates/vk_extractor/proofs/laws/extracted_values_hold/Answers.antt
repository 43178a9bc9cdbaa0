use Rattle.vk_extractor.proofs.Holding.{extracted_hold}
use Rattle.vk_extractor.proofs.laws.extracted_values_hold.Goals as goal

pub returns : goal.returns
returns c plan case zero one firsts seconds is_plan first second agree =
    extracted_hold plan case zero one firsts seconds is_plan first second agree
