-- Bids of one outcome have values that hold for one plan.
use Rattle.std.proofs.Common.{ℕ, List}
use Rattle.vk_plan.specs.Plans.{PlanValue}
use Rattle.vk_vickrey.specs.BoardCases.{claimed_case}
use Rattle.vk_vickrey.specs.BoardPlans.{board_plan, board_values}
use Rattle.vk_job.proofs.Held.{board_plan_is, board_values_hold}
use Rattle.vk_views.specs.Bids.{OfOneOutcome, BothHold}
use Rattle.vk_views.specs.Laws.{WhereBothHold}

pub both_hold : OfOneOutcome BothHold
both_hold n bids others terms claim claim_others =
    let is = claimed_case n bids terms claim in
    (board_values_hold n is bids claim, board_values_hold n is others claim_others)

-- what holds of any values that hold for one plan holds of theirs
pub of_one_outcome : (Law : PlanValue → List ℕ → List ℕ → Type 0) → WhereBothHold Law
    → OfOneOutcome Law
of_one_outcome Law law n bids others terms claim claim_others =
    let held = both_hold n bids others terms claim claim_others in
    let is = claimed_case n bids terms claim in
    law (board_plan n) (board_values n bids) (board_values n others) (board_plan_is n is) held.0
    held.1
