-- Bids of which an auction publishes the same.
use Rattle.std.specs.Prelude.{ℕ, List}
use Rattle.vk_plan.specs.Plans.{PlanValue, Holds}
use Rattle.vk_vickrey.specs.BoardCases.{AreBoardTerms}
use Rattle.vk_vickrey.specs.BoardPlans.{BoardNumbers, BoardClaim, board_plan, board_values}

-- A law of any two lists of bids, equally many, 1 to 64, and below 2^width each, that have one sale
-- under one reserve, on a seller's terms within the limits: of the plan that shows this sale, and
-- of the values of its wires for either list.
abbrev pub OfOneOutcome : (PlanValue → List ℕ → List ℕ → Type 0) → Type 0
OfOneOutcome Law =
    (n : BoardNumbers) (bids others : List ℕ) → AreBoardTerms n → BoardClaim n bids
    → BoardClaim n others
    → Law (board_plan n) (board_values n bids) (board_values n others)

-- the values for both lists hold for the one plan
abbrev pub BothHold : PlanValue → List ℕ → List ℕ → Type 0
BothHold plan values others = Holds plan values × Holds plan others
