-- The values that two replies open are values of which the claim holds.
use Rattle.std.proofs.Common.{◌≡◌, ℕ, List, Option, Some, None, IfSome, Result, Ok, IfOk, take, slice_index_or, sym, ap, subst, ◌∙◌}
use Rattle.vk_plan.specs.Plans.{Holds, PlanValue}
use Rattle.vk_judge.specs.declared.opened.Opened.{Opened}
use Rattle.vk_judge.specs.declared.opened.Refusal.{Refusal}
use Rattle.vk_judge.specs.Opened.{FileBase, file_coming, opened_in}
use Rattle.vk_judge.specs.Statement.{StatementValue}
use Rattle.vk_judge.proofs.HeldFiles.{are_of_held}
use Rattle.vk_bids.specs.declared.bids.LaneBids.{LaneBids}
use Rattle.vk_bids.specs.declared.extraction.Extraction.TheVariants.{Refused, Same, Clash, Bids}
use Rattle.vk_bids.specs.FileExtraction.{OpensFile, file_extraction, file_of}
use Rattle.vk_bids.specs.FileHeadline.{IsOfFile, IsOpenedFile}
use Rattle.vk_bids.specs.Opening.{LaneOpens}
use Rattle.vk_bids.proofs.FileHeadline.{accepted_open}
use Rattle.vk_claim.specs.declared.claim.ClaimRefusal.{ClaimRefusal}
use Rattle.vk_claim.specs.declared.front.ClaimHead.{ClaimHead}
use Rattle.vk_words.specs.declared.claim.Kind.{Kind}
use Rattle.vk_claim.specs.Values.{Claims, Plans, plan_for}
use Rattle.vk_claim.specs.Claims.{IsClaim, claim_at, statement_of}
use Rattle.vk_claim.specs.Acceptance.{claim_form}
use Rattle.vk_claim.specs.Two.{ClaimFilesGive, IsClaimBase, two_claims_on}
use Rattle.vk_claim.specs.Extraction.{AcceptedClaimsOpen, ClaimExtraction, ClaimFilesAreExtracted, IsClaimOpened, IsOfClaim, LaneHolds, OpenedClaim, ShowsClaims, TwoClaimsAccepted, claim_extraction_on}
use Rattle.vk_claim.proofs.Fronts.{AreRight, is_form, statement_right}

-- where values hold for a part's plan, its claim holds of the inputs
abbrev pub AreSound : Plans → Claims → Type 0
AreSound plans claims =
    (kind : Kind) (inputs : ℕ) (numbers values : List ℕ)
    → IfSome (plans kind inputs numbers)
    (λ plan. Holds plan values → claims kind inputs numbers (take inputs values))

module _ (plans : Plans) (claims : Claims) (sound : AreSound plans claims) where
  claim_holds : (head : ClaimHead) (s : StatementValue) (lane : LaneBids)
      → plan_for plans head ≡ Some s.plan → s.plan.inputs ≡ head.inputs
      → LaneOpens s lane → LaneHolds claims head lane
  claim_holds head s lane admitted inputs opens =
      let P : Option PlanValue
      → Type 0 = λ plan. IfSome plan
      (λ plan. Holds plan opens.values → claims head.kind head.inputs head.numbers
      (take head.inputs opens.values))
      in
      let step = subst P admitted (sound head.kind head.inputs head.numbers opens.values) in
      subst (claims head.kind head.inputs head.numbers)
      (ap (λ n. take n opens.values) (sym inputs) ∙ opens.inputs) (step opens.holds)

  -- ---- whatever the files are

  module _ (opened : Result (Opened ClaimHead) (Refusal ClaimRefusal)) (right : IfOk opened (IsClaim plans)) where
    claim_is : (claim : Opened ClaimHead) → opened ≡ Ok claim → IsClaim plans claim
    claim_is claim is = subst (λ o. IfOk o (IsClaim plans)) is right

    pub claims_shown : (found : ClaimExtraction) → OpensFile opened found
        → ShowsClaims plans claims found
    claims_shown (Refused second refusal) opens = tt
    claims_shown Same opens = tt
    claims_shown (Clash two) opens = tt
    claims_shown (Bids found) opens =
        let claim = claim_is (file_of found) opens.such in
        record {
          claim = claim;
          lanes = λ k d h. record {
            opens = opens.lanes k d h;
            holds = claim_holds found.head found.opened.statement
                (slice_index_or found.opened.lanes k d) claim.admitted.admitted
                (opens.statement.inputs ∙ claim.admitted.front.seals.count) (opens.lanes k d h);
          };
        }

  -- ---- where both replies are accepted

  module _ (plans_right : AreRight plans) {file challenge reply other second : List ℕ} (two : TwoClaimsAccepted plans file challenge reply other second) where
    -- of the values that they open the file's claim holds
    pub claim_opened : (found : OpenedClaim) → IsOpenedFile (claim_form plans) two found
        → IsClaimOpened plans claims two found
    claim_opened found is =
        let shown = two.first.front in
        let right = two.first.right in
        record {
          is = is;
          holds = λ k d h. claim_holds shown.front.head (statement_of shown)
              (slice_index_or found.opened.lanes k d) right.admitted
              ((statement_right plans plans_right shown right).inputs ∙ right.front.seals.count)
              (is.opened.opens k d h);
        }

    of_claim : (found : ClaimExtraction) → IsOfFile (claim_form plans) two found
        → IsOfClaim plans claims two found
    of_claim (Refused of_second refusal) is = absurd is
    of_claim Same is = absurd is
    of_claim (Clash clash) is = is
    of_claim (Bids found) is = claim_opened found is

  pub claims_open : AreRight plans → AcceptedClaimsOpen plans claims
  claims_open plans_right file challenge reply other second two =
      of_claim plans_right two _
      (accepted_open (claim_form plans) (is_form plans plans_right) file challenge reply other
      second two)

-- the claim that was opened is what is known before the first lane
pub claim_known : (plans : Plans) (opened : Result (Opened ClaimHead) (Refusal ClaimRefusal))
    (base : Option (FileBase ClaimHead)) → IfOk opened (IsClaim plans)
    → IfSome base (λ known. opened ≡ Ok (opened_in known)) → IfSome base (IsClaimBase plans)
claim_known plans opened None right is = tt
claim_known plans opened (Some known) right is = subst (λ o. IfOk o (IsClaim plans)) is right

-- ---- named files

pub claim_files_give : (plans : Plans) → ClaimFilesGive plans
unfolding two_claims_on
claim_files_give plans = are_of_held (file_coming (claim_at plans))

pub claim_files_are_extracted : (plans : Plans) → ClaimFilesAreExtracted plans
unfolding claim_extraction_on
claim_files_are_extracted plans = are_of_held (file_extraction (claim_at plans))
