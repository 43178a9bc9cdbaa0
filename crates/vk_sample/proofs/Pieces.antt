-- The pieces that are written of a sample are its files.
use Rattle.std.proofs.Common.{◌≡◌, ℕ, List, refl, ap, ◌∙◌, append-nil}
use Rattle.vk_io.specs.Writing.{texts_of}
use Rattle.vk_board.specs.Texts.{head_text}
use Rattle.vk_reply.specs.Texts.{challenge_text}
use Rattle.vk_keeper.specs.declared.auction.Auction.{Auction}
use Rattle.vk_job.specs.Jobs.{proof_of}
use Rattle.vk_job.specs.Proofs.{ProofValue}
use Rattle.vk_job.specs.Published.{head_of}
use Rattle.vk_job.proofs.Joined.{board_is_joined, reply_is_joined}
use Rattle.vk_report.specs.declared.sample.SampleCase.{SampleCase}
use Rattle.vk_words.specs.Names.{ExtractWords}
use Rattle.vk_sample.specs.Texts.{files_of, sample_names}
use Rattle.vk_sample_parts.specs.Written.{written_of}

pub texts_are : (sample : SampleCase) (auction : Auction)
    → texts_of (written_of sample_names (head_text (head_of auction)) (proof_of auction)
    sample.first sample.second) ≡ files_of sample auction
texts_are sample auction =
    rw (
      board_is_joined auction,
      append-nil (challenge_text sample.first),
      reply_is_joined auction sample.first,
      append-nil (challenge_text sample.second),
      reply_is_joined auction sample.second,
    ) refl

-- under these names, with this head and this proof
pub texts_from : (names : ExtractWords) (head : List ℕ) (proof : ProofValue) (sample : SampleCase)
    (auction : Auction)
    → names ≡ sample_names → head ≡ head_text (head_of auction) → proof ≡ proof_of auction
    → texts_of (written_of names head proof sample.first sample.second) ≡ files_of sample auction
texts_from names head proof sample auction named headed proved =
    ap (λ n. texts_of (written_of n head proof sample.first sample.second)) named
    ∙ ap (λ h. texts_of (written_of sample_names h proof sample.first sample.second)) headed
    ∙ ap (λ p. texts_of (written_of sample_names (head_text (head_of auction)) p sample.first
    sample.second)) proved
    ∙ texts_are sample auction
