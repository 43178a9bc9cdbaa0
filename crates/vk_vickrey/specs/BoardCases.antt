-- What a board publishes of bids is within its limits, where the bids and the seller's terms are.
use Rattle.std.specs.Prelude.{ℕ, ◌-◌, ◌^◌, ◌<◌, ◌≤◌, ◌≡◌, List, All, length}
use Rattle.std.proofs.Common.{◌∙◌, arith, inl, inr}
use Rattle.std.proofs.lemmas.Bool.{cases_eq}
use Rattle.vk_residue.specs.Limits.{IsWidth}
use Rattle.vk_vickrey.specs.declared.sales.Sale.{Sale}
use Rattle.vk_vickrey.specs.declared.sales.Sale.TheVariants.{Sold, Unsold}
use Rattle.vk_vickrey.specs.Sales.{IsSold, IsSale}
use Rattle.vk_vickrey.specs.SaleLaws.{outcome_is_sale}
use Rattle.vk_vickrey.specs.VickreyPlans.{IsVickreyCase, IsVickreyClaim}
use Rattle.vk_vickrey.specs.ReservePlans.{IsReserveCase, IsSaleCase}
use Rattle.vk_vickrey.specs.ReserveLaws.{sold_case}
use Rattle.vk_vickrey.specs.BoardPlans.{BoardNumbers, IsBoardCase, IsFirstCase, BoardClaim}

-- What is known of an auction before its sale: version 1 or 2, 1 to 64 bids, their width, and a
-- reserve below 2^width, which is 0 in version 1.
pub record AreBoardTerms (n : BoardNumbers) : Type 0 where
  pub least_version : 1 ≤ n.version
  pub most_version : n.version ≤ 2
  pub some_seals : 1 ≤ n.seals
  pub most_seals : n.seals ≤ 64
  pub wide : IsWidth n.width
  pub reserve_within_width : n.reserve < 2 ^ n.width
  pub unnamed : n.version ≡ 1 → n.reserve ≡ 0

module _ (bids : List ℕ) (seals width reserve : ℕ) (one_each : length bids ≡ seals) (within : All (λ bid. bid < 2 ^ width) bids) (small : reserve < 2 ^ width) where
  price_within : (position price : ℕ) → IsSold bids reserve position price → price < 2 ^ width
  price_within position price is =
      elim is.price_is_reserve_or_bid [
        | inl at_reserve ↦ omega (arith, at_reserve)
        | inr held ↦
            (let below = within (held.holder - 1) 0
            (omega (arith, held.is_position.some, held.is_position.within)) in
            omega (arith, held.bids_price))
      ]

  alone_at_reserve : (position price : ℕ) → IsSold bids reserve position price → seals ≡ 1
      → price ≡ reserve
  alone_at_reserve position price is one =
      let at = is.wins.is_position in
      elim is.price_is_reserve_or_bid [
        | inl at_reserve ↦ at_reserve
        | inr held ↦ absurd (held.is_other
            (omega (arith, at.some, at.within, held.is_position.some, held.is_position.within)))
      ]

  pub sale_case : (sale : Sale) → 1 ≤ seals → IsSale bids reserve sale
      → IsSaleCase seals width reserve sale
  sale_case (Sold position price) some is = record {
    some_position = is.wins.is_position.some;
    within_seals = omega (arith, is.wins.is_position.within);
    within_width = price_within position price is;
    reserve_within_price = is.reserve_within_price;
    alone = alone_at_reserve position price is;
  }
  sale_case Unsold some is =
      omega (arith, is 1 (record { some = omega arith; within = omega arith }))

-- the same of version 1
first_case : (seals width reserve : ℕ) (sale : Sale) → IsReserveCase seals width reserve sale
    → reserve ≡ 0 → IsFirstCase seals width reserve sale
first_case seals width reserve (Sold position price) is none = (
  none,
  sold_case seals width reserve position price is (λ one. is.sale_case.alone one ∙ none),
)
first_case seals width reserve Unsold is none = omega (arith, is.sale_case)

-- so is what a board publishes of bids, in either version
pub claimed_reserve_case : (n : BoardNumbers) (bids : List ℕ) → AreBoardTerms n → BoardClaim n bids
    → IsReserveCase n.seals n.width n.reserve n.sale
claimed_reserve_case n bids terms claim = record {
  some_seals = terms.some_seals;
  most_seals = terms.most_seals;
  wide = terms.wide;
  reserve_within_width = terms.reserve_within_width;
  sale_case = sale_case bids n.seals n.width n.reserve claim.one_each claim.within_width
      terms.reserve_within_width n.sale terms.some_seals claim.is_sale;
}

pub claimed_case : (n : BoardNumbers) (bids : List ℕ) → AreBoardTerms n → BoardClaim n bids
    → IsBoardCase n
claimed_case n bids terms claim =
    let case = claimed_reserve_case n bids terms claim in
    elim (cases_eq n.version 1) [
      | inl one ↦ inl (one, first_case n.seals n.width n.reserve n.sale case (terms.unnamed one))
      | inr other ↦ inr (omega (arith, other, terms.least_version, terms.most_version), case)
    ]

-- and an outcome without a reserve
pub claimed_vickrey_case : (seals width position price : ℕ) (bids : List ℕ) → 1 ≤ seals
    → seals ≤ 64 → IsWidth width → IsVickreyClaim seals width position price bids
    → IsVickreyCase seals width position price
claimed_vickrey_case seals width position price bids some most wide claim =
    let sold = outcome_is_sale bids position price claim.outcome in
    let at = claim.outcome.is_position in
    record {
      some_seals = some;
      most_seals = most;
      wide = wide;
      some_position = at.some;
      within_seals = omega (arith, at.within, claim.one_each);
      within_width = price_within bids seals width 0 claim.one_each claim.within_width
          (omega arith) position price sold;
      alone = alone_at_reserve bids seals width 0 claim.one_each claim.within_width (omega arith)
          position price sold;
    }
