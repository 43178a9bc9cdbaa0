-- Bids have one sale, and without a reserve it is their outcome.
use Rattle.std.specs.Prelude.{ℕ, ◌<◌, ◌≤◌, ◌≡◌, ◌≢◌, List, length, max}
use Rattle.std.proofs.Common.{refl, sym, ap, ◌∙◌, subst, arith, inl, inr}
use Rattle.std.proofs.lemmas.Bool.{cases_lt, cases_eq}
use Rattle.vk_vickrey.specs.declared.sales.Sale.{Sale}
use Rattle.vk_vickrey.specs.declared.sales.Sale.TheVariants.{Sold, Unsold}
use Rattle.vk_vickrey.specs.Outcomes.{bid_at, IsPosition, IsBidElsewhere, IsVickreyOutcome}
use Rattle.vk_vickrey.specs.Sales.{IsFirstOfGreatest, IsSold, IsSale}

-- one alone is the first of the greatest
not_before : (bids : List ℕ) (winner winner' : ℕ) → IsFirstOfGreatest bids winner
    → IsFirstOfGreatest bids winner' → winner' ≤ winner
not_before bids winner winner' a b =
    elim (cases_lt winner winner') [
      | inl lower ↦ absurd (omega (
        arith,
        b.first_of_the_greatest winner a.is_position lower,
        a.none_bids_more winner' b.is_position,
      ))
      | inr upper ↦ upper
    ]

pub winner_is_one : (bids : List ℕ) (winner winner' : ℕ) → IsFirstOfGreatest bids winner
    → IsFirstOfGreatest bids winner' → winner ≡ winner'
winner_is_one bids winner winner' a b =
    let up = not_before bids winner winner' a b in
    let down = not_before bids winner' winner b a in
    omega arith

-- two sales of the same bids and reserve are one
price_within : (bids : List ℕ) (reserve winner price price' : ℕ) → IsSold bids reserve winner price
    → IsSold bids reserve winner price' → price ≤ price'
price_within bids reserve winner price price' a b =
    elim a.price_is_reserve_or_bid [
      | inl at_reserve ↦ omega (arith, at_reserve, b.reserve_within_price)
      | inr held ↦ omega (
        arith,
        held.bids_price,
        b.others_within_price held.holder held.is_position held.is_other,
      )
    ]

pub sold_is_one : (bids : List ℕ) (reserve winner price winner' price' : ℕ)
    → IsSold bids reserve winner price → IsSold bids reserve winner' price'
    → (winner ≡ winner') × (price ≡ price')
sold_is_one bids reserve winner price winner' price' a b =
    let same = winner_is_one bids winner winner' a.wins b.wins in
    let b' = subst (λ w. IsSold bids reserve w price') (sym same) b in
    let up = price_within bids reserve winner price price' a b' in
    let down = price_within bids reserve winner price' price b' a in
    (same, omega arith)

not_both : (bids : List ℕ) (reserve winner price : ℕ) → IsSale bids reserve Unsold
    → IsSold bids reserve winner price → ⊥
not_both bids reserve winner price unsold sold =
    omega (arith, unsold winner sold.wins.is_position, sold.meets_reserve)

pub sale_is_one : (bids : List ℕ) (reserve : ℕ) (sale other : Sale) → IsSale bids reserve sale
    → IsSale bids reserve other → sale ≡ other
sale_is_one bids reserve (Sold winner price) (Sold winner' price') a b =
    let same = sold_is_one bids reserve winner price winner' price' a b in
    ap (λ w. Sold w price) same.0 ∙ ap (λ p. Sold winner' p) same.1
sale_is_one bids reserve (Sold winner price) Unsold a b =
    absurd (not_both bids reserve winner price b a)
sale_is_one bids reserve Unsold (Sold winner price) a b =
    absurd (not_both bids reserve winner price a b)
sale_is_one bids reserve Unsold Unsold a b = refl

-- of an outcome: the winner, and what is so of the price
pub wins_outcome : (bids : List ℕ) (winner price : ℕ) → IsVickreyOutcome bids winner price
    → IsFirstOfGreatest bids winner
wins_outcome bids winner price is = record {
  is_position = is.is_position;
  none_bids_more = is.none_bids_more;
  first_of_the_greatest = is.first_of_the_greatest;
}

others_within : (bids : List ℕ) (winner price other : ℕ) → IsVickreyOutcome bids winner price
    → IsPosition bids other → other ≢ winner
    → bid_at bids other ≤ price
others_within bids winner price other is at ne =
    is.others_within_price (omega
    (arith, ne, at.some, at.within, is.is_position.some, is.is_position.within)) other at ne

-- where the winner meets the reserve, it is sold at the reserve or at the price, which is more
pub sold_at_reserve : (bids : List ℕ) (reserve winner price : ℕ)
    → IsVickreyOutcome bids winner price → reserve ≤ bid_at bids winner
    → price ≤ reserve → IsSold bids reserve winner reserve
sold_at_reserve bids reserve winner price is meets low = record {
  wins = wins_outcome bids winner price is;
  meets_reserve = meets;
  reserve_within_price = omega arith;
  others_within_price = λ other at ne.
      omega (arith, others_within bids winner price other is at ne);
  price_is_reserve_or_bid = inl refl;
}

pub sold_at_price : (bids : List ℕ) (reserve winner price : ℕ) → IsVickreyOutcome bids winner price
    → reserve ≤ bid_at bids winner
    → reserve ≤ price → IsSold bids reserve winner price
sold_at_price bids reserve winner price is meets above = record {
  wins = wins_outcome bids winner price is;
  meets_reserve = meets;
  reserve_within_price = above;
  others_within_price = λ other at ne. others_within bids winner price other is at ne;
  price_is_reserve_or_bid = elim (cases_lt 1 (length bids)) [
    | inl many ↦ inr (is.price_is_bid (omega arith))
    | inr one ↦ inl (omega (
      arith,
      is.alone_pays_0 (omega (arith, is.is_position.some, is.is_position.within)),
    ))
  ];
}

pub sold_at_greater : (bids : List ℕ) (reserve winner price paid : ℕ)
    → IsVickreyOutcome bids winner price → reserve ≤ bid_at bids winner
    → paid ≡ max price reserve → IsSold bids reserve winner paid
sold_at_greater bids reserve winner price paid is meets greater =
    elim (cases_lt price reserve) [
      | inl low ↦ subst (IsSold bids reserve winner) (omega (arith, greater))
          (sold_at_reserve bids reserve winner price is meets (omega arith))
      | inr above ↦ subst (IsSold bids reserve winner) (omega (arith, greater))
          (sold_at_price bids reserve winner price is meets above)
    ]

-- where the winner is below it, all are
pub unsold_below : (bids : List ℕ) (reserve winner price : ℕ) → IsVickreyOutcome bids winner price
    → bid_at bids winner < reserve → IsSale bids reserve Unsold
unsold_below bids reserve winner price is below position at =
    omega (arith, is.none_bids_more position at)

-- an outcome is the sale without a reserve
pub outcome_is_sale : (bids : List ℕ) (winner price : ℕ) → IsVickreyOutcome bids winner price
    → IsSold bids 0 winner price
outcome_is_sale bids winner price is =
    sold_at_price bids 0 winner price is (omega arith) (omega arith)

-- a bid of nothing is held elsewhere where no other bids more
held_at_0 : (bids : List ℕ) (winner price another : ℕ) → IsSold bids 0 winner price → price ≡ 0
    → IsPosition bids another → another ≢ winner
    → IsBidElsewhere bids winner price
held_at_0 bids winner price another sold zero' at ne = record {
  holder = another;
  is_position = at;
  is_other = ne;
  bids_price = omega (arith, sold.others_within_price another at ne);
}

pub sale_is_outcome : (bids : List ℕ) (winner price : ℕ) → IsSold bids 0 winner price
    → IsVickreyOutcome bids winner price
sale_is_outcome bids winner price sold = record {
  is_position = sold.wins.is_position;
  none_bids_more = sold.wins.none_bids_more;
  first_of_the_greatest = sold.wins.first_of_the_greatest;
  alone_pays_0 = λ one. elim sold.price_is_reserve_or_bid [
    | inl zero' ↦ zero'
    | inr held ↦ absurd (held.is_other
        (omega (
          arith,
          held.is_position.some,
          held.is_position.within,
          sold.wins.is_position.some,
          sold.wins.is_position.within,
        )))
  ];
  others_within_price = λ many. sold.others_within_price;
  price_is_bid = λ many. elim sold.price_is_reserve_or_bid [
    | inl zero' ↦ elim (cases_eq winner 1) [
      | inl first ↦ held_at_0 bids winner price 2 sold zero'
          (record { some = omega arith; within = many }) (λ e. omega arith)
      | inr later ↦ held_at_0 bids winner price 1 sold zero'
          (record { some = omega arith; within = omega arith }) (λ e. later (sym e))
    ]
    | inr held ↦ held
  ];
}
