-- What `sample` does.
use Rattle.std.proofs.Common.{◌≡◌, ℕ, List, ◌++◌, length, Option, Result, Ok, sym, ap, subst, ◌∙◌}
use Rattle.std.specs.Prelude.{IfSome}
use Rattle.vk_io.specs.Files.{Files}
use Rattle.vk_io.specs.Writing.{written}
use Rattle.vk_io.specs.declared.errors.OutsideErr.{OutsideErr}
use Rattle.vk_bids.specs.declared.extraction.Extraction.TheVariants.{Bids}
use Rattle.vk_keeper.specs.declared.auction.Auction.{Auction}
use Rattle.vk_keeper.specs.Ledgers.{Ledger}
use Rattle.vk_job.specs.Published.{head_of}
use Rattle.vk_report.specs.declared.sample.SampleCase.{SampleCase}
use Rattle.vk_report.specs.Samples.{sample_of}
use Rattle.vk_effect.specs.Effects.{SaidValue, stores}
use Rattle.vk_effect.specs.Ends.{Acts}
use Rattle.vk_sample_parts.specs.Auctions.{DrySeed, auction_of}
use Rattle.vk_sample.specs.Laws.{IsAuctionOf, SampleOpensAll, opened}
use Rattle.vk_sample.specs.Samples.{effect_by, sample_on}
use Rattle.vk_sample_parts.specs.Texts.{found_text, same_count}
use Rattle.vk_sample.specs.Texts.{files_of, made_text, read_said, sample_read, summary_said}

-- ---- the summary

module _ (sample : SampleCase) (auction : Auction) (is : IsAuctionOf sample auction) (opens : SampleOpensAll sample auction) (number : ℕ) (made : List ℕ) (made_is : made ≡ made_text number (head_of auction)) where
  summary : read_said made (Ok (Bids (opened sample auction)))
      ≡ summary_said number (head_of auction)
  unfolding head_of
  summary =
      let of : List ℕ → ℕ → ℕ → SaidValue =
      λ front lanes same. record { status = 0; text = front ++ found_text lanes same } in
      let found = opened sample auction in
      ap (λ front. of front (length found.lanes)
      (same_count (length found.front.seals) found.lanes)) made_is
      ∙ ap (λ lanes. of (made_text number (head_of auction)) lanes
      (same_count (length found.front.seals) found.lanes)) (opens.all_lanes ∙ sym is.lanes_are)
      ∙ ap (of (made_text number (head_of auction)) auction.lanes)
      (opens.all_same ∙ sym is.seals_are)

  -- the files that were written are read back, and open every bid
  pub reads_back : (files : Files)
      → read_said made (sample_read (written (files_of sample auction) files))
      ≡ summary_said number (head_of auction)
  reads_back files = ap (read_said made) (opens.read files) ∙ summary

-- ---- the whole

-- the sample is that of the number, and this comes of its seeds
pub sample_acts : (number : ℕ) (sample : SampleCase) (made : Result Auction DrySeed)
    (held now : Option Files) (ledger : Option Ledger) (answer : Result SaidValue OutsideErr)
    → sample ≡ sample_of number → auction_of sample ≡ made
    → IfSome (effect_by held ledger number sample made)
    (λ effect. Acts answer effect (stores held ledger) (stores now ledger))
    → IfSome (sample_on held ledger number)
    (λ effect. Acts answer effect (stores held ledger) (stores now ledger))
unfolding sample_on
sample_acts number sample made held now ledger answer is comes acts =
    let P : SampleCase → Type 0 =
    λ s. IfSome (effect_by held ledger number s (auction_of s))
    (λ effect. Acts answer effect (stores held ledger) (stores now ledger)) in
    subst P is (subst (λ m. IfSome (effect_by held ledger number sample m)
    (λ effect. Acts answer effect (stores held ledger) (stores now ledger))) (sym comes) acts)
