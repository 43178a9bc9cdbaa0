-- One list of bids has one outcome, and one pass finds it.
use Rattle.std.specs.Prelude.{ℕ, ◌+◌, ◌-◌, ◌<◌, ◌≤◌, ◌≡◌, ◌≢◌, List, length, slice_index, max}
use Rattle.std.proofs.Common.{refl, sym, ap, ◌∙◌, subst, arith, inl, inr, zero, suc, add-one}
use Rattle.std.proofs.lemmas.Bool.{cases_lt}
use Rattle.vk_vickrey.specs.declared.sales.Sale.{Sale}
use Rattle.vk_vickrey.specs.declared.sales.Sale.TheVariants.{Sold, Unsold}
use Rattle.vk_vickrey.specs.Outcomes.{bid_at, IsBidElsewhere, IsVickreyOutcome}
use Rattle.vk_vickrey.specs.Sales.{IsSale, IsSold}
use Rattle.vk_vickrey.specs.SaleLaws.{sold_is_one, winner_is_one, wins_outcome, outcome_is_sale, sold_at_greater, unsold_below}

-- two outcomes of the same bids are one
pub outcome_is_one : (bids : List ℕ) (winner price winner' price' : ℕ)
    → IsVickreyOutcome bids winner price → IsVickreyOutcome bids winner' price'
    → (winner ≡ winner') × (price ≡ price')
outcome_is_one bids winner price winner' price' a b =
    sold_is_one bids 0 winner price winner' price' (outcome_is_sale bids winner price a)
    (outcome_is_sale bids winner' price' b)

-- the outcome of the first bids, the winner counted from 0
pub record IsOutcomeOfFirst (bids : List ℕ) (count winner best price : ℕ) : Type 0 where
  pub inside : winner < count
  pub is_best : best ≡ slice_index bids winner
  pub most : (j : ℕ) → j < count → slice_index bids j ≤ best
  pub first : (j : ℕ) → j < winner → slice_index bids j < best
  pub alone : count ≡ 1 → price ≡ 0
  pub within : (j : ℕ) → j < count → j ≢ winner → slice_index bids j ≤ price
  pub held : 2 ≤ count → (j : ℕ) × (j < count) × (j ≢ winner) × (slice_index bids j ≡ price)

pub first_alone : (bids : List ℕ) (best : ℕ) → best ≡ slice_index bids 0
    → IsOutcomeOfFirst bids 1 0 best 0
first_alone bids best is_best = record {
  inside = omega arith;
  is_best = is_best;
  most = λ j h. let e : j ≡ 0 = omega arith in omega (arith, ap (slice_index bids) e);
  first = λ j h. omega arith;
  alone = λ _. refl;
  within = λ j h ne. absurd (ne (omega arith));
  held = λ h. absurd (omega arith);
}

-- what is true of each place so far and of the next is true of all of these
next_holds : (P : ℕ → Type 0) (count : ℕ) → P count → ((j : ℕ) → j < count → P j) → (j : ℕ)
    → j < count + 1 → P j
next_holds P count here before j h = elim (cases_lt j count) [
  | inl q ↦ before j q
  | inr q ↦ (let e : j ≡ count = omega arith in subst P (sym e) here)
]

-- the next bid is above the best: its holder wins, and the price is the best so far
pub next_wins : (bids : List ℕ) (count winner best price : ℕ) → 1 ≤ count
    → best < slice_index bids count
    → IsOutcomeOfFirst bids count winner best price
    → IsOutcomeOfFirst bids (count + 1) count (slice_index bids count) best
next_wins bids count winner best price some above so_far = record {
  inside = omega arith;
  is_best = refl;
  most = next_holds (λ j. slice_index bids j ≤ slice_index bids count) count (omega arith)
      (λ j q. omega (arith, so_far.most j q));
  first = λ j h. omega (arith, so_far.most j h);
  alone = λ h. absurd (omega arith);
  within = λ j h ne. so_far.most j (omega (arith, ne));
  held = λ h. (
    winner,
    omega (arith, so_far.inside),
    (λ e. omega (arith, so_far.inside)),
    sym so_far.is_best,
  );
}

-- it is not above the best: the winner stays, at a price that neither it nor the price so far is
-- above
next_stays : (bids : List ℕ) (count winner best price next : ℕ) → slice_index bids count ≤ best
    → slice_index bids count ≤ next → price ≤ next
    → (j : ℕ) × (j < count + 1) × (j ≢ winner) × (slice_index bids j ≡ next)
    → IsOutcomeOfFirst bids count winner best price
    → IsOutcomeOfFirst bids (count + 1) winner best next
next_stays bids count winner best price next below low le held so_far = record {
  inside = omega (arith, so_far.inside);
  is_best = so_far.is_best;
  most = next_holds (λ j. slice_index bids j ≤ best) count below so_far.most;
  first = so_far.first;
  alone = λ h. absurd (omega (arith, so_far.inside));
  within = next_holds (λ j. j ≢ winner → slice_index bids j ≤ next) count (λ _. low)
      (λ j q ne. omega (arith, le, so_far.within j q ne));
  held = λ _. held;
}

-- it is above the price alone: it is the price
pub next_is_price : (bids : List ℕ) (count winner best price : ℕ) → slice_index bids count ≤ best
    → price < slice_index bids count
    → IsOutcomeOfFirst bids count winner best price
    → IsOutcomeOfFirst bids (count + 1) winner best (slice_index bids count)
next_is_price bids count winner best price below above so_far =
    next_stays bids count winner best price (slice_index bids count) below (omega arith)
    (omega arith)
    (count, omega arith, (λ e. omega (arith, so_far.inside)), refl) so_far

-- it is above neither: nothing changes
pub next_is_lower : (bids : List ℕ) (count winner best price : ℕ) → slice_index bids count ≤ best
    → slice_index bids count ≤ price
    → IsOutcomeOfFirst bids count winner best price
    → IsOutcomeOfFirst bids (count + 1) winner best price
next_is_lower bids count winner best price below low so_far =
    next_stays bids count winner best price price below low (omega arith) (elim (cases_lt 1 count) [
      | inl q ↦ (let before = so_far.held (omega arith) in
          (before.0, omega (arith, before.1), before.2, before.3))
      | inr q ↦
          (let one : count ≡ 1 = omega (arith, so_far.inside) in
          let nothing = so_far.alone one in
          (count, omega arith, (λ e. omega (arith, so_far.inside)), omega arith))
    ]) so_far

-- the price is that of another, by his place counted from 0
pub price_held : (bids : List ℕ) (winner price : ℕ)
    (held : (j : ℕ) × (j < length bids) × (j ≢ winner) × (slice_index bids j ≡ price))
    → IsBidElsewhere bids (winner + 1) price
price_held bids winner price held = record {
  holder = held.0 + 1;
  is_position = record { some = omega arith; within = omega (arith, held.1) };
  is_other = λ e. held.2 (omega arith);
  bids_price = (let e : held.0 + 1 - 1 ≡ held.0 = omega arith in ap (slice_index bids) e) ∙ held.3;
}

-- the outcome of all bids
pub all_first : (bids : List ℕ) (winner best price : ℕ)
    → IsOutcomeOfFirst bids (length bids) winner best price
    → IsVickreyOutcome bids (winner + 1) price
all_first bids winner best price found =
    let back : winner + 1 - 1 ≡ winner = omega arith in
    let bid : bid_at bids (winner + 1) ≡ best = ap (slice_index bids) back ∙ sym found.is_best in
    record {
      is_position = record { some = omega arith; within = omega (arith, found.inside) };
      none_bids_more = λ other at.
          omega (arith, bid, found.most (other - 1) (omega (arith, at.some, at.within)));
      first_of_the_greatest = λ other at before.
          omega (arith, bid, found.first (other - 1) (omega (arith, at.some)));
      alone_pays_0 = found.alone;
      others_within_price = λ many other at ne. found.within (other - 1)
          (omega (arith, at.some, at.within)) (λ e. ne (omega (arith, at.some)));
      price_is_bid = λ many. price_held bids winner price (found.held many);
    }

-- where there is a bid there is an outcome
first_exists : (bids : List ℕ) (n : ℕ) → (winner : ℕ) × (best : ℕ) × (price : ℕ)
    × IsOutcomeOfFirst bids (n + 1) winner best price
first_exists bids zero = (0, slice_index bids 0, 0, first_alone bids (slice_index bids 0) refl)
first_exists bids (suc n) =
    let before = first_exists bids n in
    let so_far = before.3 in
    let bid = slice_index bids (n + 1) in
    subst (λ m. (winner : ℕ) × (best : ℕ) × (price : ℕ)
    × IsOutcomeOfFirst bids (m + 1) winner best price) (add-one n)
    (elim (cases_lt before.1 bid) [
      | inl above ↦ (
        n + 1,
        bid,
        before.1,
        next_wins bids (n + 1) before.0 before.1 before.2 (omega arith) above so_far,
      )
      | inr below ↦ elim (cases_lt before.2 bid) [
        | inl above ↦ (
          before.0,
          before.1,
          bid,
          next_is_price bids (n + 1) before.0 before.1 before.2 below above so_far,
        )
        | inr low ↦ (
          before.0,
          before.1,
          before.2,
          next_is_lower bids (n + 1) before.0 before.1 before.2 below low so_far,
        )
      ]
    ])

pub outcome_exists : (bids : List ℕ) → 1 ≤ length bids → (winner : ℕ) × (price : ℕ)
    × IsVickreyOutcome bids winner price
outcome_exists bids some =
    let found = first_exists bids (length bids - 1) in
    let all : length bids - 1 + 1 ≡ length bids = omega arith in (
      found.0 + 1,
      found.2,
      all_first bids found.0 found.1 found.2
          (subst (λ n. IsOutcomeOfFirst bids n found.0 found.1 found.2) all found.3),
    )

pub sale_exists : (bids : List ℕ) (reserve : ℕ) → 1 ≤ length bids
    → (sale : Sale) × IsSale bids reserve sale
sale_exists bids reserve some =
    let found = outcome_exists bids some in
    elim (cases_lt (bid_at bids found.0) reserve) [
      | inl below ↦ (Unsold, unsold_below bids reserve found.0 found.1 found.2 below)
      | inr meets ↦ (
        Sold found.0 (max found.1 reserve),
        sold_at_greater bids reserve found.0 found.1 (max found.1 reserve) found.2 meets refl,
      )
    ]

-- who is sold to wins the outcome, and pays its price or the reserve
pub outcome_of_sold : (bids : List ℕ) (reserve winner paid : ℕ) → IsSold bids reserve winner paid
    → (price : ℕ) × IsVickreyOutcome bids winner price × (paid ≡ max price reserve)
outcome_of_sold bids reserve winner paid sold =
    let found = outcome_exists bids
    (omega (arith, sold.wins.is_position.some, sold.wins.is_position.within)) in
    let same = winner_is_one bids found.0 winner (wins_outcome bids found.0 found.1 found.2)
    sold.wins in
    let outcome = subst (λ w. IsVickreyOutcome bids w found.1) same found.2 in
    let greater = sold_at_greater bids reserve winner found.1 (max found.1 reserve) outcome
    sold.meets_reserve refl in (
      found.1,
      outcome,
      (sold_is_one bids reserve winner paid winner (max found.1 reserve) sold
          greater).1,
    )
