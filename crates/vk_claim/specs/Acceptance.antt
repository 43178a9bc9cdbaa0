-- The form of claim files: when one is accepted with a challenge and a reply, and why it is
-- refused, by whole texts.
use Rattle.std.specs.Prelude.{◌≡◌, ◌↔◌, ℕ, List, Some, None}
use Rattle.vk_lines.specs.Forms.{fault_line}
use Rattle.vk_judge.specs.FileForms.{Accepts, Form, Fronts, JudgedHolds}
use Rattle.vk_judge.specs.Refusals.{BeginsWith}
use Rattle.vk_claim.specs.declared.claim.ClaimRefusal.{ClaimRefusal}
use Rattle.vk_claim.specs.declared.claim.ClaimRefusal.TheVariants.{Public}
use Rattle.vk_claim.specs.declared.front.ClaimFront.{ClaimFront}
use Rattle.vk_claim.specs.declared.front.ClaimHead.{ClaimHead}
use Rattle.vk_claim.specs.declared.verdict.ClaimVerdict.{ClaimVerdict}
use Rattle.vk_claim.specs.Values.{IsClaimFront, Plans, plan_for, shape_for}
use Rattle.vk_claim.specs.Texts.{claim_front_text}
use Rattle.vk_claim.specs.Tables.{claim_table}
use Rattle.vk_claim.specs.Claims.{IsAdmitted, PlannedFront, claim_at, statement_of}
use Rattle.vk_claim.specs.Verdicts.{claim_verdict_of, judged_of}

-- the fronts of claim files whose public part is admitted
abbrev pub claim_fronts : Plans → Fronts PlannedFront
claim_fronts plans = record {
  IsRight = IsAdmitted plans;
  statement = statement_of;
  text = λ shown. claim_front_text shown.front;
}

-- the file has a front whose public part is admitted, and behind it the reply is accepted for the
-- challenge
abbrev pub ClaimAccepts : Plans → List ℕ → List ℕ → List ℕ → Type 0
ClaimAccepts plans = Accepts (claim_fronts plans)

-- ---- why files are refused

-- the file begins with a front
pub record HasClaimFront (file : List ℕ) (front : ClaimFront) : Type 0 where
  pub right : IsClaimFront front
  pub begins : BeginsWith file (claim_front_text front)

-- it does, and the public part is not admitted
pub record PublicFails (plans : Plans) (file : List ℕ) : Type 0 where
  pub front : ClaimFront
  pub has_front : HasClaimFront file front
  pub refused : plan_for plans front.head ≡ None

abbrev pub ClaimRefuses : Plans → ClaimRefusal → List ℕ → Type 0
ClaimRefuses plans Public file = PublicFails plans file

-- which line of a claim file is its fault line
abbrev pub IsClaimLine : Plans → List ℕ → ℕ → Type 0
IsClaimLine plans file line = fault_line (claim_table (shape_for plans)) file ≡ Some line

-- that is its fault line, and it begins with no front
pub record FrontStops (plans : Plans) (file : List ℕ) (line : ℕ) : Type 0 where
  pub fault_line : IsClaimLine plans file line
  pub none : (front : ClaimFront) → ¬ HasClaimFront file front

-- the form of claim files
abbrev pub claim_form : Plans → Form PlannedFront ClaimHead ClaimRefusal
claim_form plans = record {
  fronts = claim_fronts plans;
  front_at = claim_at plans;
  head = λ shown. shown.front.head;
  Refuses = ClaimRefuses plans;
  Stops = FrontStops plans;
  IsLine = IsClaimLine plans;
}

-- the verdict holds of the files: the reply is accepted, the public part isn't admitted, or there
-- is this fault
abbrev pub ClaimVerdictHolds : Plans → ClaimVerdict → List ℕ → List ℕ → List ℕ → Type 0
ClaimVerdictHolds plans verdict = JudgedHolds (claim_form plans) (judged_of verdict)

-- a verdict is given exactly where it holds
abbrev pub ClaimVerdictsAreExact : Plans → Type 0
ClaimVerdictsAreExact plans = (verdict : ClaimVerdict) (file challenge reply : List ℕ)
    → (claim_verdict_of plans file challenge reply ≡ verdict)
    ↔ ClaimVerdictHolds plans verdict file challenge reply
