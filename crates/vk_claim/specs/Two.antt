-- Two replies to a claim file, side by side.
use Rattle.std.specs.Prelude.{◌≡◌, ◌↔◌, ℕ, List, Option, option_map, Result, Ok}
use Rattle.vk_io.specs.Files.{Files}
use Rattle.vk_judge.specs.declared.answers.VErr.{VErr}
use Rattle.vk_judge.specs.declared.opened.Refusal.{Refusal}
use Rattle.vk_judge.specs.declared.stage.Finding.{Finding}
use Rattle.vk_judge.specs.Begun.{of_files}
use Rattle.vk_judge.specs.Found.{told_by}
use Rattle.vk_judge.specs.HeldFiles.{ComesOfHeld}
use Rattle.vk_judge.specs.Opened.{Checked, Coming, FileBase, checked_finding, file_coming, opened_in}
use Rattle.vk_claim.specs.declared.claim.ClaimRefusal.{ClaimRefusal}
use Rattle.vk_claim.specs.declared.front.ClaimHead.{ClaimHead}
use Rattle.vk_claim.specs.declared.verdict.ClaimVerdict.{ClaimVerdict}
use Rattle.vk_claim.specs.Values.{Plans}
use Rattle.vk_claim.specs.Claims.{IsClaim, claim_at}
use Rattle.vk_claim.specs.Verdicts.{refused_verdict}

-- what is found, as it is told of a claim file
abbrev pub as_claim_finding : Finding (Refusal ClaimRefusal) → Finding ClaimVerdict
as_claim_finding = told_by refused_verdict

-- what was found, where no lane is given any more
abbrev pub claim_finding : Checked ClaimHead ClaimRefusal → Option (Finding ClaimVerdict)
claim_finding checked = option_map as_claim_finding (checked_finding checked)

-- the public part is admitted, and the lanes are held to that part's plan
abbrev pub IsClaimBase : Plans → FileBase ClaimHead → Type 0
IsClaimBase plans known = IsClaim plans (opened_in known)

-- what there is to be given and found of the named files
unfoldable pub two_claims_on : Plans → Files → List ℕ → List ℕ → List ℕ → List ℕ → List ℕ
    → Result (Coming ClaimHead ClaimRefusal) VErr
two_claims_on plans = of_files (file_coming (claim_at plans))

-- it is that of their bytes
abbrev pub ClaimFilesGive : Plans → Type 0
ClaimFilesGive plans =
    (files : Files) (file challenge reply other second : List ℕ) (coming : Coming ClaimHead
    ClaimRefusal)
    → (two_claims_on plans files file challenge reply other second ≡ Ok coming)
    ↔ ComesOfHeld (file_coming (claim_at plans)) files file challenge reply other second coming
