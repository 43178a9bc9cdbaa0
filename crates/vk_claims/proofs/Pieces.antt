-- The pieces that are written of a sample's claim are its files.
use Rattle.std.proofs.Common.{◌≡◌, ℕ, List, refl, ap, ◌∙◌, append-nil}
use Rattle.vk_io.specs.Writing.{texts_of}
use Rattle.vk_reply.specs.Texts.{challenge_text}
use Rattle.vk_claim.specs.Texts.{claim_head_text}
use Rattle.vk_job.specs.Proofs.{ProofValue}
use Rattle.vk_job.proofs.Joined.{file_is_joined, shown_is_joined}
use Rattle.vk_report.specs.declared.sample.SampleCase.{SampleCase}
use Rattle.vk_words.specs.declared.claim.Kind.{Kind}
use Rattle.vk_words.specs.Names.{ExtractWords}
use Rattle.vk_sample_parts.specs.Written.{written_of}
use Rattle.vk_claims.specs.Claims.{head_with}
use Rattle.vk_claims.specs.Texts.{claim_names, files_of}

texts_are : (kind : Kind) (case : SampleCase) (numbers : List ℕ) (proof : ProofValue)
    → texts_of (written_of claim_names (claim_head_text (head_with kind case numbers)) proof
    case.first case.second) ≡ files_of kind case numbers proof
texts_are kind case numbers proof =
    rw (
      file_is_joined (claim_head_text (head_with kind case numbers)) proof,
      append-nil (challenge_text case.first),
      shown_is_joined proof case.first.bits,
      append-nil (challenge_text case.second),
      shown_is_joined proof case.second.bits,
    ) refl

-- under these names, with this head and this proof
pub texts_from : (names : ExtractWords) (head : List ℕ) (of proof : ProofValue) (kind : Kind)
    (case : SampleCase) (numbers : List ℕ)
    → names ≡ claim_names → head ≡ claim_head_text (head_with kind case numbers) → of ≡ proof
    → texts_of (written_of names head of case.first case.second) ≡ files_of kind case numbers proof
texts_from names head of proof kind case numbers named headed proved =
    ap (λ n. texts_of (written_of n head of case.first case.second)) named
    ∙ ap (λ h. texts_of (written_of claim_names h of case.first case.second)) headed
    ∙ ap (λ p. texts_of (written_of claim_names (claim_head_text (head_with kind case numbers)) p
    case.first case.second)) proved
    ∙ texts_are kind case numbers proof
