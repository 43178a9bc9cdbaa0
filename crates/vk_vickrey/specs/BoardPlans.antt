-- What a board publishes of its auction, whatever its version, and the plan that shows it. Version
-- 1 has no reserve and sells always; version 2 names one.
use Rattle.std.specs.Prelude.{ℕ, ◌≡◌, ◌⊎◌, ◌==◌, if◌then◌else◌, List}
use Rattle.vk_plan.specs.Plans.{PlanValue, plan_of_inputs}
use Rattle.vk_vickrey.specs.declared.sales.Sale.{Sale}
use Rattle.vk_vickrey.specs.declared.sales.Sale.TheVariants.{Sold, Unsold}
use Rattle.vk_vickrey.specs.declared.board_plan.BoardPlan.{BoardPlan}
use Rattle.vk_vickrey.specs.declared.board_plan.BoardPlan.TheVariants.{One, Two}
use Rattle.vk_vickrey.specs.VickreyPlans.{IsVickreyCase, vickrey_plan, honest_values, wire_count, row_count}
use Rattle.vk_vickrey.specs.ReservePlans.{IsReserveCase, IsBoardClaim, reserve_plan, reserve_values, sale_wire_count, sale_row_count}

-- the numbers that a board publishes
pub record BoardNumbers : Type 0 where
  pub version : ℕ
  pub seals : ℕ
  pub width : ℕ
  pub reserve : ℕ
  pub sale : Sale

abbrev pub board_numbers : ℕ → ℕ → ℕ → ℕ → Sale → BoardNumbers
board_numbers version seals width reserve sale =
    record { version = version; seals = seals; width = width; reserve = reserve; sale = sale }

-- those of version 1, within their limits
abbrev pub IsFirstCase : ℕ → ℕ → ℕ → Sale → Type 0
IsFirstCase seals width reserve (Sold position price) = (reserve ≡ 0)
    × IsVickreyCase seals width position price
IsFirstCase seals width reserve Unsold = ⊥

-- those of either version
abbrev pub IsBoardCase : BoardNumbers → Type 0
IsBoardCase n =
    ((n.version ≡ 1) × IsFirstCase n.seals n.width n.reserve n.sale)
    ⊎ ((n.version ≡ 2) × IsReserveCase n.seals n.width n.reserve n.sale)

-- the plan and the values of version 1; it has none for what stays unsold
abbrev pub first_plan : ℕ → ℕ → Sale → PlanValue
first_plan seals width (Sold position price) = vickrey_plan seals width position price
first_plan seals width Unsold = plan_of_inputs seals

abbrev pub first_values : ℕ → ℕ → Sale → List ℕ → List ℕ
first_values seals width (Sold position price) bids = honest_values seals width position price bids
first_values seals width Unsold bids = bids

-- those of either version
abbrev pub board_plan : BoardNumbers → PlanValue
board_plan n = if n.version == 1 then first_plan n.seals n.width n.sale
    else reserve_plan n.seals n.width n.reserve n.sale

abbrev pub board_values : BoardNumbers → List ℕ → List ℕ
board_values n bids = if n.version == 1 then first_values n.seals n.width n.sale bids
    else reserve_values n.seals n.width n.reserve n.sale bids

-- what the plan shows of the bids
abbrev pub BoardClaim : BoardNumbers → List ℕ → Type 0
BoardClaim n bids = IsBoardClaim n.seals n.width n.reserve n.sale bids

-- how many wires it has, and how many rows
abbrev pub board_wire_count : BoardNumbers → ℕ
board_wire_count n = if n.version == 1 then wire_count n.seals n.width
    else sale_wire_count n.seals n.width n.reserve n.sale

abbrev pub board_row_count : BoardNumbers → ℕ
board_row_count n = if n.version == 1 then row_count n.seals
    else sale_row_count n.seals n.reserve n.sale

-- the numbers that a plan shows
abbrev pub numbers_of : BoardPlan → BoardNumbers
numbers_of (One plan) = board_numbers 1 plan.seals plan.width 0 (Sold plan.position plan.price)
numbers_of (Two plan) = board_numbers 2 plan.seals plan.width plan.reserve plan.sale
