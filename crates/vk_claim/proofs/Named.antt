-- What named files come to, from what is read of their first lines on.
use Rattle.std.proofs.Common.{◌≡◌, ℕ, List, Ok, ap, sym, ◌∙◌}
use Rattle.vk_residue.specs.Steps.{◌>>=◌}
use Rattle.vk_io.specs.Files.{Files}
use Rattle.vk_judge.specs.Begun.{five_rests, of_attempt, of_files, three_rests}
use Rattle.vk_judge.specs.Opened.{file_coming, file_judged}
use Rattle.vk_judge.proofs.Attempts.{attempt_begun, files_begun}
use Rattle.vk_bids.specs.FileExtraction.{file_extraction}
use Rattle.vk_bids.proofs.Named.{step_after}
use Rattle.vk_claim.specs.Values.{Plans}
use Rattle.vk_claim.specs.Claims.{claim_at}
use Rattle.vk_claim.specs.Verdicts.{claim_judged_on, claim_verdict_at, claim_verdict_on, verdict_by}
use Rattle.vk_claim.specs.Two.{two_claims_on}
use Rattle.vk_claim.specs.Extraction.{claim_extraction_on}

module _ (plans : Plans) (files : Files) (file challenge reply : List ℕ) where
  pub judged_begun : claim_judged_on plans files file challenge reply
      ≡ (of_attempt three_rests files file challenge reply >>= λ rests.
      Ok (file_judged (claim_at plans) rests.0 rests.1 rests.2))
  unfolding claim_judged_on
  judged_begun = attempt_begun (file_judged (claim_at plans)) files file challenge reply

  pub verdict_judged : claim_verdict_on plans files file challenge reply
      ≡ (claim_judged_on plans files file challenge reply >>= λ judged. Ok (verdict_by judged))
  unfolding claim_verdict_on
  verdict_judged =
      attempt_begun (claim_verdict_at plans) files file challenge reply
      ∙ (step_after (of_attempt three_rests files file challenge reply)
      (λ rests. file_judged (claim_at plans) rests.0 rests.1 rests.2) verdict_by
      ∙ ap (λ judged. judged >>= λ judged. Ok (verdict_by judged)) (sym judged_begun))

module _ (plans : Plans) (files : Files) (file challenge reply other second : List ℕ) where
  pub two_begun : two_claims_on plans files file challenge reply other second
      ≡ (of_files five_rests files file challenge reply other second >>= λ rests.
      Ok (file_coming (claim_at plans) rests.0 rests.1 rests.2 rests.3 rests.4))
  unfolding two_claims_on
  two_begun = files_begun (file_coming (claim_at plans)) files file challenge reply other second

  pub extraction_begun : claim_extraction_on plans files file challenge reply other second
      ≡ (of_files five_rests files file challenge reply other second >>= λ rests.
      Ok (file_extraction (claim_at plans) rests.0 rests.1 rests.2 rests.3 rests.4))
  unfolding claim_extraction_on
  extraction_begun = files_begun (file_extraction (claim_at plans)) files file challenge reply other
      second
