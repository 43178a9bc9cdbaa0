-- What two replies to a claim file come to holds of the bytes of the files, and no other that
-- settles it does.
use Rattle.std.proofs.Common.{◌≡◌, ℕ, All, List, sym, subst}
use Rattle.vk_judge.proofs.FileForms.{judged_exact}
use Rattle.vk_bids.specs.declared.extraction.Extraction.TheVariants.{Refused, Same, Clash, Bids}
use Rattle.vk_bids.specs.Extractions.{IsFound, OfBids}
use Rattle.vk_bids.specs.FileHeadline.{ExtractionHoldsOf}
use Rattle.vk_bids.proofs.FileFindings.{file_extraction_holds, file_unfound_found}
use Rattle.vk_claim.specs.Acceptance.{claim_form}
use Rattle.vk_claim.specs.Extraction.{ClaimExtraction, LaneHolds, claim_extraction_in}
use Rattle.vk_claim.specs.Values.{Claims, Plans}
use Rattle.vk_claim.specs.Verdicts.{ClaimJudged, claim_judged_in}
use Rattle.vk_claim.proofs.Fronts.{AreRight, is_form}
use Rattle.vk_claim.proofs.Opening.{AreSound, claim_opened}
use Rattle.vk_claims.specs.Findings.{ClaimExtractionHolds, ClaimHolds, LanesHold}

module _ (plans : Plans) (right : AreRight plans) (file challenge reply : List ℕ) where
  pub judged_shown : (judged : ClaimJudged) → claim_judged_in plans file challenge reply ≡ judged
      → ClaimHolds plans judged file challenge reply
  judged_shown judged is =
      (judged_exact (claim_form plans) (is_form plans right) file challenge reply judged).0 is

  pub judged_given : (judged : ClaimJudged) → ClaimHolds plans judged file challenge reply
      → claim_judged_in plans file challenge reply ≡ judged
  judged_given judged holds =
      (judged_exact (claim_form plans) (is_form plans right) file challenge reply judged).1 holds

module _ (plans : Plans) (claims : Claims) (right : AreRight plans) (sound : AreSound plans claims) (file challenge reply other second : List ℕ) where
  abbrev answered : ClaimExtraction
  answered = claim_extraction_in plans file challenge reply other second

  claims_hold : (extraction : ClaimExtraction)
      → ExtractionHoldsOf (claim_form plans) extraction file challenge reply other second
      → OfBids (LanesHold claims) extraction
  claims_hold (Refused of_second refused) holds = tt
  claims_hold Same holds = tt
  claims_hold (Clash clash) holds = tt
  claims_hold (Bids found) holds =
      subst (λ head. All (LaneHolds claims head) found.opened.lanes) (sym holds.1.head)
      (claim_opened plans claims sound right holds.0 found holds.1).holds

  -- what they come to holds of the bytes
  pub extraction_holds : ClaimExtractionHolds plans claims answered file challenge reply other
      second
  extraction_holds =
      let holds = file_extraction_holds (claim_form plans) (is_form plans right) file challenge
      reply other second in
      record { holds = holds; claim = claims_hold answered holds }

  -- and what isn't found is the one extraction that holds
  pub unfound_found : (extraction : ClaimExtraction) → ¬ IsFound extraction
      → ClaimExtractionHolds plans claims extraction file challenge reply other second
      → answered ≡ extraction
  unfound_found extraction unfound holds =
      file_unfound_found (claim_form plans) (is_form plans right) file challenge reply other second
      extraction unfound holds.holds
