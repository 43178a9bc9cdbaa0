-- The laws of the plans of both versions.
use Rattle.std.proofs.Common.{ℕ, ◌≡◌, List, length, take, inl, inr, refl, sym, ap, ◌∙◌, subst}
use Rattle.vk_plan.specs.Plans.{IsPlan, Holds}
use Rattle.vk_vickrey.specs.declared.sales.Sale.{Sale}
use Rattle.vk_vickrey.specs.declared.sales.Sale.TheVariants.{Sold, Unsold}
use Rattle.vk_vickrey.specs.declared.board_plan.BoardPlan.{BoardPlan}
use Rattle.vk_vickrey.specs.declared.board_plan.BoardPlan.TheVariants.{One, Two}
use Rattle.vk_vickrey.specs.SaleLaws.{outcome_is_sale, sale_is_outcome}
use Rattle.vk_vickrey.specs.VickreyPlans.{IsVickreyClaim, vickrey_plan}
use Rattle.vk_vickrey.specs.VickreyLaws.{vickrey_complete}
use Rattle.vk_vickrey.specs.VickreySteps.{vickrey_is_plan, vickrey_wires, vickrey_rows, circuit_begins, circuit_sound}
use Rattle.vk_vickrey.specs.ReservePlans.{IsBoardClaim}
use Rattle.vk_vickrey.specs.ReserveLaws.{sale_is_plan, sale_begins, sale_sound, sale_complete, reserve_inputs, reserve_wires, reserve_rows}
use Rattle.vk_vickrey.specs.BoardPlans.{BoardNumbers, BoardClaim, IsBoardCase, IsFirstCase, board_numbers, numbers_of, board_plan, board_values, board_wire_count, board_row_count}

-- what is claimed without a reserve, in both forms
pub first_claim : (seals width position price : ℕ) (bids : List ℕ)
    → IsVickreyClaim seals width position price bids
    → IsBoardClaim seals width 0 (Sold position price) bids
first_claim seals width position price bids claim =
    record {
      one_each = claim.one_each;
      within_width = claim.within_width;
      is_sale = outcome_is_sale bids position price claim.outcome;
    }

pub claim_first : (seals width position price : ℕ) (bids : List ℕ)
    → IsBoardClaim seals width 0 (Sold position price) bids
    → IsVickreyClaim seals width position price bids
claim_first seals width position price bids claim =
    record {
      one_each = claim.one_each;
      within_width = claim.within_width;
      outcome = sale_is_outcome bids position price claim.is_sale;
    }

pub board_is_plan : (plan : BoardPlan) → IsPlan (board_plan (numbers_of plan))
board_is_plan (One p) = vickrey_is_plan p.seals p.width p.position p.price p.in_limits
board_is_plan (Two p) = sale_is_plan p

pub board_begins : (plan : BoardPlan) (bids : List ℕ) → BoardClaim (numbers_of plan) bids
    → take (board_plan (numbers_of plan)).inputs (board_values (numbers_of plan) bids) ≡ bids
board_begins (One p) bids claim =
    circuit_begins p.seals p.width p.position p.price bids
    (claim_first p.seals p.width p.position p.price bids claim)
board_begins (Two p) bids claim = sale_begins p bids claim

pub board_sound : (plan : BoardPlan) (values : List ℕ) → Holds (board_plan (numbers_of plan)) values
    → BoardClaim (numbers_of plan) (take (board_plan (numbers_of plan)).inputs values)
board_sound (One p) values holds =
    first_claim p.seals p.width p.position p.price
    (take (board_plan (numbers_of (One p))).inputs values)
    (circuit_sound p.seals p.width p.position p.price values p.in_limits holds)
board_sound (Two p) values holds = sale_sound p values holds

pub board_complete : (plan : BoardPlan) (bids : List ℕ) → BoardClaim (numbers_of plan) bids
    → Holds (board_plan (numbers_of plan)) (board_values (numbers_of plan) bids)
board_complete (One p) bids claim =
    vickrey_complete p.seals p.width p.position p.price bids p.in_limits
    (claim_first p.seals p.width p.position p.price bids claim)
board_complete (Two p) bids claim = sale_complete p bids claim

-- how many inputs, wires and rows there are
pub board_inputs : (plan : BoardPlan)
    → (board_plan (numbers_of plan)).inputs ≡ (numbers_of plan).seals
unfolding vickrey_plan
board_inputs (One p) = refl
board_inputs (Two p) = reserve_inputs p.seals p.width p.reserve p.sale

pub board_wires : (plan : BoardPlan)
    → length (board_plan (numbers_of plan)).kinds ≡ board_wire_count (numbers_of plan)
board_wires (One p) = vickrey_wires p.seals p.width p.position p.price p.in_limits.some_seals
board_wires (Two p) = reserve_wires p.seals p.width p.reserve p.sale p.in_limits.some_seals

pub board_rows : (plan : BoardPlan)
    → length (board_plan (numbers_of plan)).rows ≡ board_row_count (numbers_of plan)
board_rows (One p) = vickrey_rows p.seals p.width p.position p.price p.in_limits.some_seals
board_rows (Two p) = reserve_rows p.seals p.width p.reserve p.sale p.in_limits.some_seals

-- ---- numbers within their limits are those of a plan

abbrev HasPlan : BoardNumbers → Type 0
HasPlan n = (plan : BoardPlan) × (numbers_of plan ≡ n)

first_has_plan : (seals width reserve : ℕ) (sale : Sale) → IsFirstCase seals width reserve sale
    → HasPlan (board_numbers 1 seals width reserve sale)
first_has_plan seals width reserve (Sold position price) is = (
  One (record {
    seals = seals;
    width = width;
    position = position;
    price = price;
    in_limits = is.1;
  }),
  ap (λ r. board_numbers 1 seals width r (Sold position price)) (sym is.0),
)
first_has_plan seals width reserve Unsold is = absurd is

has_plan : (n : BoardNumbers) → IsBoardCase n → HasPlan n
has_plan n (inl first) =
    let found = first_has_plan n.seals n.width n.reserve n.sale first.1 in (
      found.0,
      found.1 ∙ ap (λ version. board_numbers version n.seals n.width n.reserve n.sale)
          (sym first.0),
    )
has_plan n (inr second) = (
  Two (record {
    seals = n.seals;
    width = n.width;
    reserve = n.reserve;
    sale = n.sale;
    in_limits = second.1;
  }),
  ap (λ version. board_numbers version n.seals n.width n.reserve n.sale) (sym second.0),
)

-- so what holds of the numbers of every plan holds of them
pub of_plans : (Law : BoardNumbers → Type 0) → ((plan : BoardPlan) → Law (numbers_of plan))
    → (n : BoardNumbers) → IsBoardCase n → Law n
of_plans Law law n is =
    let found = has_plan n is in
    subst Law found.1 (law found.0)
