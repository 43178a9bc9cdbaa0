-- What is read of a claim file before its first lane: what the lanes are to show, by the plan of
-- its public part.
use Rattle.std.specs.Prelude.{◌≡◌, Option, Some, None, Result, Ok, Err}
use Rattle.vk_residue.specs.Steps.{◌>>=◌}
use Rattle.vk_lines.specs.Lines.{Rest}
use Rattle.vk_plan.specs.Plans.{PlanValue}
use Rattle.vk_judge.specs.declared.answers.Part.TheVariants as part
use Rattle.vk_judge.specs.declared.answers.Fault.{Fault}
use Rattle.vk_judge.specs.declared.opened.Opened.{Opened}
use Rattle.vk_judge.specs.declared.opened.Refusal.{Refusal}
use Rattle.vk_judge.specs.declared.opened.Refusal.TheVariants as refusal
use Rattle.vk_judge.specs.Statement.{StatementValue}
use Rattle.vk_judge.specs.Behind.{in_part}
use Rattle.vk_claim.specs.declared.claim.ClaimRefusal.{ClaimRefusal}
use Rattle.vk_claim.specs.declared.claim.ClaimRefusal.TheVariants.{Public}
use Rattle.vk_claim.specs.declared.front.ClaimFront.{ClaimFront}
use Rattle.vk_claim.specs.declared.front.ClaimHead.{ClaimHead}
use Rattle.vk_claim.specs.Values.{IsClaimFront, Plans, plan_for}
use Rattle.vk_claim.specs.Reading.{claim_front_at, claim_front_with}

-- what stands before the first lane, with the plan of its public part
pub record PlannedFront : Type 0 where
  pub front : ClaimFront
  pub plan : PlanValue

abbrev pub planned : ClaimFront → PlanValue → PlannedFront
planned front plan = record { front = front; plan = plan }

-- it may stand there, and the part is admitted with this plan
pub record IsAdmitted (plans : Plans) (shown : PlannedFront) : Type 0 where
  pub front : IsClaimFront shown.front
  pub admitted : plan_for plans shown.front.head ≡ Some shown.plan

-- what the lanes behind it are to show
abbrev pub statement_of : PlannedFront → StatementValue
statement_of shown = record {
  auction = shown.front.head.auction;
  lanes = shown.front.head.lanes;
  seals = shown.front.seals;
  plan = shown.plan;
}

abbrev pub claim_of : PlannedFront → Opened ClaimHead
claim_of shown = record { head = shown.front.head; statement = statement_of shown }

-- the front of a claim, with its plan
abbrev pub front_in : Opened ClaimHead → PlannedFront
front_in claim = planned (claim_front_with claim.head claim.statement.seals) claim.statement.plan

-- the public part is admitted, and the lanes are to show it by the part's plan
pub record IsClaim (plans : Plans) (claim : Opened ClaimHead) : Type 0 where
  pub admitted : IsAdmitted plans (front_in claim)
  pub is : claim.statement ≡ statement_of (front_in claim)

-- ---- how it is read

-- the claim with this front, where its part has a plan
abbrev pub claim_with : ClaimFront → Option PlanValue
    → Result (Opened ClaimHead) (Refusal ClaimRefusal)
claim_with front (Some plan) = Ok (claim_of (planned front plan))
claim_with front None = Err (refusal.Front Public)

-- the claim with the front that was read, whose part is admitted
abbrev pub claim_past : Plans → Result (ClaimFront × Rest) Fault
    → Result (Opened ClaimHead × Rest) (Refusal ClaimRefusal)
claim_past plans (Ok front) = claim_with front.0 (plan_for plans front.0.head) >>= λ claim.
    Ok (claim, front.1)
claim_past plans (Err fault) = Err (refusal.Fault fault)

-- the lines before the first lane, and then the public part
unfoldable pub claim_at : Plans → Rest → Result (Opened ClaimHead × Rest) (Refusal ClaimRefusal)
claim_at plans file = claim_past plans (in_part part.Board (claim_front_at file))
