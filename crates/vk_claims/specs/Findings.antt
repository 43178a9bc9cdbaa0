-- What two replies to a claim file come to, by the bytes of the files, whatever public parts are
-- admitted.
use Rattle.std.specs.Prelude.{ℕ, All, List}
use Rattle.vk_judge.specs.FileForms.{JudgedHolds}
use Rattle.vk_bids.specs.Extractions.{OfBids}
use Rattle.vk_bids.specs.FileHeadline.{ExtractionHoldsOf}
use Rattle.vk_claim.specs.Acceptance.{claim_form}
use Rattle.vk_claim.specs.Extraction.{ClaimExtraction, LaneHolds, OpenedClaim}
use Rattle.vk_claim.specs.Values.{Claims, Plans}
use Rattle.vk_claim.specs.Verdicts.{ClaimJudged}

-- judging comes to this: the reply is accepted, the public part isn't admitted, or there is this
-- fault
abbrev pub ClaimHolds : Plans → ClaimJudged → List ℕ → List ℕ → List ℕ → Type 0
ClaimHolds plans = JudgedHolds (claim_form plans)

-- the claim of the file holds of the values of each lane
abbrev pub LanesHold : Claims → OpenedClaim → Type 0
LanesHold claims found = All (LaneHolds claims found.head) found.opened.lanes

-- the first reply is refused; or it is accepted, and the second is refused; or both are accepted,
-- and the challenges are the same, one commitment is opened with two values, or there are values,
-- of which the claim holds
pub record ClaimExtractionHolds (plans : Plans) (claims : Claims) (extraction : ClaimExtraction)
    (file challenge reply other second : List ℕ) : Type 0 where
  pub holds : ExtractionHoldsOf (claim_form plans) extraction file challenge reply other second
  pub claim : OfBids (LanesHold claims) extraction
