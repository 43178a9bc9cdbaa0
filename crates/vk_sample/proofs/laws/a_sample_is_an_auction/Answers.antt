use Rattle.vk_report.specs.Samples.{sample_of}
use Rattle.vk_report.proofs.Samples.{sample_is_case}
use Rattle.vk_sample.proofs.Auctions.{auction_is}
use Rattle.vk_sample.proofs.Opened.{has_lines}
use Rattle.vk_sample.proofs.laws.a_sample_is_an_auction.Goals as goal

pub returns-clause-auction : goal.returns-clause-auction
returns-clause-auction c number auction made =
    auction_is (sample_of number) (sample_is_case number) auction made

pub returns-clause-lines : goal.returns-clause-lines
returns-clause-lines c number auction made =
    has_lines (sample_of number) (sample_is_case number) auction
    (auction_is (sample_of number) (sample_is_case number) auction made)
