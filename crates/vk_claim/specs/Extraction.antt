-- What two replies to a claim file come to: one of them isn't accepted, the challenges are the
-- same, two openings of one commitment, or values of which the claim holds.
use Rattle.std.specs.Prelude.{◌≡◌, ◌↔◌, ℕ, All, List, map, Result, Ok}
use Rattle.vk_io.specs.Files.{Files}
use Rattle.vk_judge.specs.declared.answers.VErr.{VErr}
use Rattle.vk_judge.specs.declared.named.TwoReplies.{TwoReplies}
use Rattle.vk_judge.specs.Begun.{of_files}
use Rattle.vk_judge.specs.HeldFiles.{ComesOfHeld}
use Rattle.vk_judge.specs.Statement.{StatementValue}
use Rattle.vk_bids.specs.declared.bids.LaneBids.{LaneBids}
use Rattle.vk_bids.specs.declared.file_extraction.OpenedFile.{OpenedFile}
use Rattle.vk_bids.specs.Extractions.{IsClashOr, OfBids}
use Rattle.vk_bids.specs.FileExtraction.{FileExtraction, file_extraction, file_extraction_in, file_of}
use Rattle.vk_bids.specs.FileHeadline.{IsClashOf, IsOpenedFile, TwoAccepted}
use Rattle.vk_bids.specs.Opening.{LaneOpens}
use Rattle.vk_claim.specs.declared.claim.ClaimRefusal.{ClaimRefusal}
use Rattle.vk_claim.specs.declared.front.ClaimHead.{ClaimHead}
use Rattle.vk_claim.specs.Values.{Claims, Plans, claim_for}
use Rattle.vk_claim.specs.Claims.{IsClaim, claim_at}
use Rattle.vk_claim.specs.Acceptance.{claim_form, claim_fronts}

-- the head of a claim file, and the values that two replies to it open
abbrev pub OpenedClaim : Type 0
OpenedClaim = OpenedFile ClaimHead

-- what two replies to a claim file come to
abbrev pub ClaimExtraction : Type 0
ClaimExtraction = FileExtraction ClaimHead ClaimRefusal

-- of the bytes of a claim file, a challenge and the reply to it, and another challenge and reply
abbrev pub claim_extraction_in : Plans → List ℕ → List ℕ → List ℕ → List ℕ → List ℕ
    → ClaimExtraction
claim_extraction_in plans = file_extraction_in (claim_at plans)

-- of the named files
unfoldable pub claim_extraction_on : Plans → Files → List ℕ → List ℕ → List ℕ → List ℕ → List ℕ
    → Result ClaimExtraction VErr
claim_extraction_on plans = of_files (file_extraction (claim_at plans))

abbrev pub claim_extraction_named : Plans → Files → TwoReplies → Result ClaimExtraction VErr
claim_extraction_named plans files names =
    claim_extraction_on plans files names.file.now names.challenge1.now names.reply1.now
    names.challenge2.now names.reply2.now

-- ---- values

-- the claim of the head's public part holds of the values of the lane
abbrev pub LaneHolds : Claims → ClaimHead → LaneBids → Type 0
LaneHolds claims head lane = claim_for claims head (map (λ bid. bid.bid) lane.bids)

-- they open its seals, and the claim holds of them
pub record LaneClaims (claims : Claims) (head : ClaimHead) (s : StatementValue)
    (lane : LaneBids) : Type 0 where
  pub opens : LaneOpens s lane
  pub holds : LaneHolds claims head lane

-- the lanes are those of the head, whose public part is admitted, and in each of them its claim
-- holds
pub record ShowsClaim (plans : Plans) (claims : Claims) (found : OpenedClaim) : Type 0 where
  pub claim : IsClaim plans (file_of found)
  pub lanes : All (LaneClaims claims found.head found.opened.statement) found.opened.lanes

abbrev pub ShowsClaims : Plans → Claims → ClaimExtraction → Type 0
ShowsClaims plans claims = OfBids (ShowsClaim plans claims)

-- ---- where both are accepted and the challenges differ

module _ (plans : Plans) where
  -- two replies are accepted with one claim file, each with its challenge, and the challenges
  -- differ
  abbrev pub TwoClaimsAccepted : (file challenge reply other second : List ℕ) → Type 0
  TwoClaimsAccepted = TwoAccepted (claim_fronts plans)

  -- the values are of just the lanes whose two bits differ; those of each lane are opened by what
  -- the replies show of it, and open its seals; and the file's claim holds of them
  pub record IsClaimOpened (claims : Claims) {file challenge reply other second : List ℕ}
      (two : TwoClaimsAccepted file challenge reply other second) (found : OpenedClaim) : Type 0
    where
      pub is : IsOpenedFile (claim_form plans) two found
      pub holds : All (LaneHolds claims two.first.front.front.head) found.opened.lanes

  -- what the replies come to is such values, or two openings of one commitment
  abbrev pub IsOfClaim : Claims → {file challenge reply other second : List ℕ}
      → TwoClaimsAccepted file challenge reply other second → ClaimExtraction → Type 0
  IsOfClaim claims two = IsClashOr (IsClashOf two) (IsClaimOpened claims two)

  -- two replies that are accepted for different challenges give values or a clash
  abbrev pub AcceptedClaimsOpen : Claims → Type 0
  AcceptedClaimsOpen claims = (file challenge reply other second : List ℕ)
      (two : TwoClaimsAccepted file challenge reply other second)
      → IsOfClaim claims two (claim_extraction_in plans file challenge reply other second)

  -- what named files come to is what their bytes do, where all are held and none is too long
  abbrev pub ClaimFilesAreExtracted : Type 0
  ClaimFilesAreExtracted =
      (files : Files) (file challenge reply other second : List ℕ) (found : ClaimExtraction)
      → (claim_extraction_on plans files file challenge reply other second ≡ Ok found)
      ↔ ComesOfHeld (file_extraction (claim_at plans)) files file challenge reply other second found
