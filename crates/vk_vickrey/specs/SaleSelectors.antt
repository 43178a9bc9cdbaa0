-- Which selector is 1 in the values of a sale: that of the first of the others who bids the price,
-- where the price is to be another's bid. Where it is the reserve of version 2 there are none.
use Rattle.std.specs.Prelude.{ℕ, ◌-◌, ◌<◌, ◌≤◌, ◌≡◌, ◌≢◌, ◌⊎◌, if◌then◌else◌, List, slice_index}
use Rattle.std.proofs.Common.{zero, suc, sym, ap, ◌∙◌, subst, arith, inl, inr}
use Rattle.std.proofs.lemmas.Bool.{cases_lt, cases_eq, ne_eqb}
use Rattle.vk_range.specs.Others.{other, other_of}
use Rattle.vk_vickrey.specs.declared.sales.Sale.{Sale}
use Rattle.vk_vickrey.specs.declared.sales.Sale.TheVariants.{Sold}
use Rattle.vk_vickrey.specs.VickreyPlans.{IsVickreyCase, IsVickreyClaim, honest_values}
use Rattle.vk_vickrey.specs.VickreySelectors.{IsFirstHolder, SelectsAt, selectors_start, honest_selector}
use Rattle.vk_vickrey.specs.ReservePlans.{IsReserveCase, IsBoardClaim, reserve_values}
use Rattle.vk_vickrey.specs.ReserveLaws.{case_above, claim_above, values_above}
use Rattle.vk_vickrey.specs.BoardPlans.{BoardNumbers, IsBoardCase, board_numbers, board_values, first_values}
use Rattle.vk_vickrey.specs.BoardLaws.{claim_first}

-- There is a first of the others who bids the price: the selector of that place is 1, and all other
-- selectors are 0. The place is counted from 0 among all positions but the winner's.
pub record SelectsFirstHolder (seals width position price : ℕ) (bids values : List ℕ) : Type 0 where
  pub place : ℕ
  pub is_other : place < seals - 1
  pub is_first : IsFirstHolder bids (position - 1) price place
  pub selects : SelectsAt values (selectors_start seals width) (seals - 1) place

-- a price that is to be another's bid: with others always in version 1, and in version 2 above the
-- reserve
abbrev pub IsBidPrice : BoardNumbers → ℕ → Type 0
IsBidPrice n price = ((n.version ≡ 1) × (2 ≤ n.seals))
    ⊎ ((n.version ≡ 2) × (n.reserve < price))

-- ---- who is the first

-- of the first so many others nobody bids the price, or one is the first who does
none_or_first : (bids : List ℕ) (winner price count : ℕ)
    → ((k : ℕ) → k < count → slice_index bids (other winner k) ≢ price)
    ⊎ ((place : ℕ) × (place < count) × IsFirstHolder bids winner price place)
none_or_first bids winner price zero = inl (λ k h. absurd (omega arith))
none_or_first bids winner price (suc count) =
    elim (none_or_first bids winner price count) [
      | inr found ↦ inr (found.0, omega (arith, found.1), found.2)
      | inl none ↦ elim (cases_eq (slice_index bids (other winner count)) price) [
        | inl here ↦ inr (count, omega arith, record { holds = here; none_before = none })
        | inr not_here ↦ inl (λ k h. elim (cases_lt k count) [
          | inl before ↦ none k before
          | inr last ↦
              (let same : k ≡ count = omega arith in
              subst (λ j. slice_index bids (other winner j) ≢ price) (sym same) not_here)
        ])
      ]
    ]

first_holder : (seals width position price : ℕ) (bids : List ℕ) → 2 ≤ seals
    → IsVickreyClaim seals width position price bids
    → (place : ℕ) × (place < seals - 1) × IsFirstHolder bids (position - 1) price place
first_holder seals width position price bids many claim =
    let held = claim.outcome.price_is_bid (omega (arith, claim.one_each)) in
    let at = claim.outcome.is_position in
    let place = other_of seals (position - 1) (held.holder - 1)
    (omega (arith, claim.one_each, held.is_position.some, held.is_position.within))
    (omega (arith, claim.one_each, at.some, at.within))
    (λ same. held.is_other (omega (arith, at.some, held.is_position.some))) in
    elim (none_or_first bids (position - 1) price (seals - 1)) [
      | inl none ↦ absurd (none place.0 place.1
          (ap (slice_index bids) place.2 ∙ held.bids_price))
      | inr found ↦ found
    ]

-- ---- the selectors of each plan's values

pub first_is_selected : (seals width position price : ℕ) (bids : List ℕ) → 2 ≤ seals
    → IsVickreyCase seals width position price → IsVickreyClaim seals width position price bids
    → SelectsFirstHolder seals width position price bids
    (honest_values seals width position price bids)
first_is_selected seals width position price bids many case claim =
    let found = first_holder seals width position price bids many claim in
    record {
      place = found.0;
      is_other = found.1;
      is_first = found.2;
      selects = honest_selector seals width position price found.0 bids case claim found.1 found.2;
    }

pub first_above_is_selected : (seals width reserve position price : ℕ) (bids : List ℕ)
    → reserve < price → IsReserveCase seals width reserve (Sold position price)
    → IsBoardClaim seals width reserve (Sold position price) bids
    → SelectsFirstHolder seals width position price bids
    (reserve_values seals width reserve (Sold position price) bids)
first_above_is_selected seals width reserve position price bids above case claim =
    let many : seals ≢ 1 = λ one. omega (arith, case.sale_case.alone one) in
    subst (SelectsFirstHolder seals width position price bids)
    (sym (values_above seals width reserve position price bids above))
    (first_is_selected seals width position price bids (omega (arith, many, case.some_seals))
    (case_above seals width reserve position price case above)
    (claim_above seals width reserve position price bids above claim))

-- the values of version 2 are those of a reserve
second_values : (version seals width reserve : ℕ) (sale : Sale) (bids : List ℕ) → version ≡ 2
    → board_values (board_numbers version seals width reserve sale) bids
    ≡ reserve_values seals width reserve sale bids
second_values version seals width reserve sale bids two =
    ap (λ b. if b then first_values seals width sale bids
    else reserve_values seals width reserve sale bids)
    (ne_eqb version 1 (omega (arith, two)))

-- and those of version 1 are those without one
first_version_values : (version seals width reserve position price : ℕ) (bids : List ℕ)
    → version ≡ 1
    → board_values (board_numbers version seals width reserve (Sold position price)) bids
    ≡ honest_values seals width position price bids
first_version_values version seals width reserve position price bids one =
    ap (λ v. board_values (board_numbers v seals width reserve (Sold position price)) bids) one

pub price_of_board_is_selected : (version seals width reserve position price : ℕ) (bids : List ℕ)
    → IsBidPrice (board_numbers version seals width reserve (Sold position price)) price
    → IsBoardCase (board_numbers version seals width reserve (Sold position price))
    → IsBoardClaim seals width reserve (Sold position price) bids
    → SelectsFirstHolder seals width position price bids
    (board_values (board_numbers version seals width reserve (Sold position price)) bids)
price_of_board_is_selected version seals width reserve position price bids (inl one) (inl first)
    claim =
    let unnamed = subst (λ r. IsBoardClaim seals width r (Sold position price) bids) first.1.0
    claim in
    subst (SelectsFirstHolder seals width position price bids)
    (sym (first_version_values version seals width reserve position price bids one.0))
    (first_is_selected seals width position price bids one.1 first.1.1
    (claim_first seals width position price bids unnamed))
price_of_board_is_selected version seals width reserve position price bids (inr two) (inr second)
    claim =
    subst (SelectsFirstHolder seals width position price bids)
    (sym (second_values version seals width reserve (Sold position price) bids two.0))
    (first_above_is_selected seals width reserve position price bids two.1 second.1 claim)
price_of_board_is_selected version seals width reserve position price bids (inl one) (inr second)
    claim = absurd (omega (arith, one.0, second.0))
price_of_board_is_selected version seals width reserve position price bids (inr two) (inl first)
    claim = absurd (omega (arith, two.0, first.0))
