-- What `sample` does, where nothing outside fails and memory is given.
pub use Rattle.vk_report.specs.Samples.{IsSampleCase}
use Rattle.std.specs.Prelude.{ℕ, Option, Result}
use Rattle.vk_io.specs.Files.{Files}
use Rattle.vk_keeper.specs.Ledgers.{Ledger}
use Rattle.vk_keeper.specs.declared.auction.Auction.{Auction}
use Rattle.vk_job.specs.Published.{head_of}
use Rattle.vk_report.specs.declared.sample.SampleCase.{SampleCase}
use Rattle.vk_report.specs.Samples.{sample_of}
use Rattle.vk_effect.specs.Effects.{Effect}
use Rattle.vk_sample_parts.specs.Auctions.{DrySeed, auction_of}
use Rattle.vk_sample_parts.specs.Effects.{effect_unless_dry, modelled_effect}
use Rattle.vk_sample.specs.Texts.{files_of, summary_said}

-- the files are written and the summary is said
abbrev pub effect_by : Option Files → Option Ledger → ℕ → SampleCase → Result Auction DrySeed
    → Option Effect
effect_by files ledger number sample =
    effect_unless_dry ledger (λ auction. modelled_effect files ledger (files_of sample auction)
    (summary_said number (head_of auction)))

-- the ledger is left as it is
unfoldable pub sample_on : Option Files → Option Ledger → ℕ → Option Effect
sample_on files ledger number =
    effect_by files ledger number (sample_of number) (auction_of (sample_of number))
