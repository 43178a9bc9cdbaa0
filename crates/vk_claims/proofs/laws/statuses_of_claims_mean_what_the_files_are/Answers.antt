use Rattle.vk_claims.proofs.Extracting.{extracts_claims_exactly, tells_claim_extractions, tells_same_claims_exactly}
use Rattle.vk_claims.proofs.Verifying.{tells_claim_verdicts, verifies_claims_exactly}
use Rattle.vk_claims.proofs.laws.statuses_of_claims_mean_what_the_files_are.Goals as goal

pub returns : goal.returns
returns c =
    record {
      verified = verifies_claims_exactly;
      extracted = extracts_claims_exactly;
      same = tells_same_claims_exactly;
      verdict_told = tells_claim_verdicts;
      extraction_told =
          tells_claim_extractions;
    }
