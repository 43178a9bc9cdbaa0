-- The auction of a sample.
use Rattle.std.proofs.Common.{◌≡◌, [], length, Ok, refl, subst, ◌∙◌}
use Rattle.vk_judge.proofs.Steps.{bind_ok}
use Rattle.vk_keeper.specs.declared.auction.Auction.{Auction}
use Rattle.vk_job.specs.Jobs.{dry_in}
use Rattle.vk_report.specs.declared.sample.SampleCase.{SampleCase}
use Rattle.vk_report.specs.Samples.{IsSampleCase}
use Rattle.vk_sample_parts.specs.Auctions.{auction_by, auction_of, auction_with, rows_onto}
use Rattle.vk_sample.specs.Laws.{IsAuctionOf}
use Rattle.vk_sample_parts.proofs.Auctions.{all_rows, is_auction, none_dry}

pub auction_is : (sample : SampleCase) → IsSampleCase sample → (auction : Auction)
    → auction_of sample ≡ Ok auction → IsAuctionOf sample auction
unfolding auction_of
auction_is sample case auction is =
    let made = bind_ok (rows_onto sample [] (length sample.seats)) (auction_by sample) auction is in
    let rows = made.0 in
    let all = all_rows sample case.right rows made.1 in
    let passed = none_dry (auction_with sample rows) auction
    (dry_in (auction_with sample rows) sample.seed) made.2 in
    let right : IsAuctionOf sample (auction_with sample rows) = record {
      proved = record {
        right = is_auction sample case.right rows all;
        seeded = refl;
        tapes = passed.0;
      };
      first = record { right = case.right.first; one_bit_each = case.right.first_count };
      second = record { right = case.right.second; one_bit_each = case.right.second_count };
      version_is = refl;
      width_is = case.width_is;
      lanes_are = case.lanes_are;
      reserve_is = refl;
      seals_are = all.count ∙ case.seals_are;
      seats_are = all.seats_are;
      bids_are = all.bids_are;
    } in
    subst (IsAuctionOf sample) passed.1 right
