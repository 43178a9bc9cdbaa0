-- The plan that shows the sale of an auction with a reserve, and the values that hold for it.
-- Wires, rows and the places below count from 0; the published position counts from 1.
use Rattle.std.specs.Prelude.{ℕ, ◌+◌, ◌-◌, ◌*◌, ◌^◌, ◌<◌, ◌≤◌, ◌≡◌, if◌then◌else◌, nat_lt, List, [], ◌∷◌, ◌++◌, All, length}
use Rattle.std.proofs.Props.{props}
use Rattle.vk_residue.specs.Limits.{IsWidth}
use Rattle.vk_residue.specs.Residue.{negative}
use Rattle.vk_plan.specs.declared.form.Form.{Form}
use Rattle.vk_plan.specs.Plans.{PlanValue}
use Rattle.vk_range.specs.declared.ranges.Ranges.{Ranges}
use Rattle.vk_range.specs.Sets.{listed, plus, minus}
use Rattle.vk_range.specs.Ranged.{ranges_of, ranged_plan, ranged_values}
use Rattle.vk_vickrey.specs.declared.sales.Sale.{Sale}
use Rattle.vk_vickrey.specs.declared.sales.Sale.TheVariants.{Sold, Unsold}
use Rattle.vk_vickrey.specs.Sales.{IsSale}
use Rattle.vk_vickrey.specs.VickreyPlans.{bid_form, vickrey_forms, vickrey_plan, honest_values, wire_count, row_count}

-- what is published of bids that are sold, within its limits
pub record IsSoldCase (seals width reserve position price : ℕ) : Type 0 where
  pub some_position : 1 ≤ position
  pub within_seals : position ≤ seals
  pub within_width : price < 2 ^ width
  pub reserve_within_price : reserve ≤ price
  pub alone : seals ≡ 1 → price ≡ reserve

-- and of any; without a reserve nothing stays unsold
abbrev pub IsSaleCase : ℕ → ℕ → ℕ → Sale → Type 0
IsSaleCase seals width reserve (Sold position price) = IsSoldCase seals width reserve position price
IsSaleCase seals width reserve Unsold = 1 ≤ reserve

-- the numbers that are published of an auction with a reserve, within their limits
pub record IsReserveCase (seals width reserve : ℕ) (sale : Sale) : Type 0 where
  pub some_seals : 1 ≤ seals
  pub most_seals : seals ≤ 64
  pub wide : IsWidth width
  pub reserve_within_width : reserve < 2 ^ width
  pub sale_case : IsSaleCase seals width reserve sale

-- each is a fact, of which there is one proof at most
IsSaleCase-prop : (seals width reserve : ℕ) (sale : Sale)
    → IsProp (IsSaleCase seals width reserve sale)
IsSaleCase-prop seals width reserve (Sold position price) = Prim.hlevel props
IsSaleCase-prop seals width reserve Unsold = Prim.hlevel props

pub IsReserveCase-prop : (seals width reserve : ℕ) (sale : Sale)
    → IsProp (IsReserveCase seals width reserve sale)
IsReserveCase-prop seals width reserve sale = Prim.hlevel (IsSaleCase-prop, props)

-- what the plan shows of the bids
pub record IsBoardClaim (seals width reserve : ℕ) (sale : Sale) (bids : List ℕ) : Type 0 where
  pub one_each : length bids ≡ seals
  pub within_width : All (λ bid. bid < 2 ^ width) bids
  pub is_sale : IsSale bids reserve sale

-- a limit less the copy of a bid
abbrev pub below_form : ℕ → ℕ → ℕ → Form
below_form seals limit j = record { terms = minus (seals + j) ∷ []; constant = limit }

-- the winner's copy less the reserve
abbrev pub reach_form : ℕ → ℕ → ℕ → Form
reach_form seals winner reserve =
    record { terms = plus (seals + winner) ∷ []; constant = negative reserve }

-- What is of the width, in order. Unsold: each copy, and the reserve less 1 less each. Sold at the
-- reserve: what shows that the winner's bid is above the others and none of these above the
-- reserve, and that it reaches it.
abbrev pub sale_forms : ℕ → ℕ → Sale → List Form
sale_forms seals reserve (Sold position price) =
    vickrey_forms seals (position - 1) reserve ++ reach_form seals (position - 1) reserve ∷ []
sale_forms seals reserve Unsold =
    listed (bid_form seals) seals ++ listed (below_form seals (reserve - 1)) seals

abbrev pub sale_ranges : ℕ → ℕ → ℕ → Sale → Ranges
sale_ranges seals width reserve sale = ranges_of (sale_forms seals reserve sale) width

-- The rows, in order: each bid is its copy, and each form is of the width. Where it is sold above
-- the reserve, the price is another's bid, and the plan is the one without a reserve.
unfoldable pub reserve_plan : ℕ → ℕ → ℕ → Sale → PlanValue
reserve_plan seals width reserve (Sold position price) =
    if nat_lt reserve price then vickrey_plan seals width position price
    else ranged_plan seals (sale_ranges seals width reserve (Sold position price))
reserve_plan seals width reserve Unsold = ranged_plan seals (sale_ranges seals width reserve Unsold)

-- the bids, their copies, and the values of the sets: each pair has its weight where that bit of
-- its set's form is set
unfoldable pub reserve_values : ℕ → ℕ → ℕ → Sale → List ℕ → List ℕ
reserve_values seals width reserve (Sold position price) bids =
    if nat_lt reserve price then honest_values seals width position price bids
    else ranged_values bids (sale_ranges seals width reserve (Sold position price))
reserve_values seals width reserve Unsold bids =
    ranged_values bids (sale_ranges seals width reserve Unsold)

-- how many wires it has, and how many rows
abbrev pub sale_wire_count : ℕ → ℕ → ℕ → Sale → ℕ
sale_wire_count seals width reserve (Sold position price) =
    if nat_lt reserve price then wire_count seals width else 2 * seals + (3 * seals - 1) * width
sale_wire_count seals width reserve Unsold = 2 * seals + 2 * seals * width

abbrev pub sale_row_count : ℕ → ℕ → Sale → ℕ
sale_row_count seals reserve (Sold position price) = if nat_lt reserve price then row_count seals
    else 4 * seals - 1
sale_row_count seals reserve Unsold = 3 * seals

-- not sold above the reserve
abbrev pub IsWithinReserve : ℕ → Sale → Type 0
IsWithinReserve reserve (Sold position price) = price ≤ reserve
IsWithinReserve reserve Unsold = Unit {0}
