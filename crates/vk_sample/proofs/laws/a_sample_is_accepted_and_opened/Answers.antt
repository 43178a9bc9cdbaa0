use Rattle.vk_report.specs.Samples.{sample_of}
use Rattle.vk_report.proofs.Samples.{sample_is_case}
use Rattle.vk_sample.proofs.Auctions.{auction_is}
use Rattle.vk_sample.proofs.Opened.{are_accepted, opens_all}
use Rattle.vk_sample.proofs.laws.a_sample_is_accepted_and_opened.Goals as goal

pub returns-clause-accepted : goal.returns-clause-accepted
returns-clause-accepted c number auction made =
    are_accepted (sample_of number) (sample_is_case number) auction
    (auction_is (sample_of number) (sample_is_case number) auction made)

pub returns-clause-opened : goal.returns-clause-opened
returns-clause-opened c number auction made =
    opens_all (sample_of number) (sample_is_case number) auction
    (auction_is (sample_of number) (sample_is_case number) auction made)
