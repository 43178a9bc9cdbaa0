use Rattle.vk_report.proofs.Samples.{sample_is_case}
use Rattle.vk_report.proofs.laws.each_number_has_a_sample.Goals as goal

pub returns : goal.returns
returns c number = sample_is_case number
