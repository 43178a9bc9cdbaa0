-- Of any bids there is one outcome for each number of winners: where all win, and from it down by
-- taking off the weakest winner.
use Rattle.std.specs.Prelude.{ℕ, zero, suc, ◌+◌, ◌-◌, ◌<◌, ◌≤◌, ◌≡◌, ◌≢◌, ◌⊎◌, List, All, Contains, length, remove, slice_index}
use Rattle.std.proofs.Common.{refl, sym, ap, ◌∙◌, subst, arith, inl, inr, add-one}
use Rattle.std.proofs.lemmas.List.{ext_get_or, get_or_default}
use Rattle.std.proofs.lemmas.List.Edits.{length-remove, get_or-remove_below, get_or-remove_above}
use Rattle.std.proofs.lemmas.List.Elements.{Contains-get_or, All-contains}
use Rattle.std.proofs.lemmas.List.Quantifiers.{all_pairs_remove}
use Rattle.std.proofs.lemmas.Bool.{cases_lt, cases_eq, cases_order, cases_Bool}
use Rattle.std.proofs.lemmas.Bool.Decides.{not_from_Decides}
use Rattle.vk_range.specs.SetLaws.{length_listed, at_listed}
use Rattle.vk_uniform.specs.Outcomes.{IsPositionAmong, IsAscending, IsLoser, IsLosersBid, Beats, IsUniformOutcome, bid_at}
use Rattle.vk_uniform.specs.Losers.{stands, stands_decides, found, Contains-place, positions, positions_are, position_listed, losers, losers_lose, loser_listed}

-- all others of the first so many winners beat the one at that place
pub record IsWeakest (bids winners : List ℕ) (count place : ℕ) : Type 0 where
  pub is_place : place < count
  pub others : (i : ℕ) → i < count → i ≢ place
      → Beats bids (slice_index winners i) (slice_index winners place)

pub weakest_first : (bids winners : List ℕ) → IsWeakest bids winners 1 0
weakest_first bids winners = record {
  is_place = omega arith;
  others = λ i h ne. absurd (omega (arith, ne));
}

module _ (bids winners : List ℕ) (count place : ℕ) (ascending : IsAscending winners) (more : count < length winners)
    (weakest : IsWeakest bids winners count place) where
  weakest_no_less : (i : ℕ) → i < count
      → bid_at bids (slice_index winners place) ≤ bid_at bids (slice_index winners i)
  weakest_no_less i h = elim (cases_eq i place) [
    | inl e ↦ (let same = ap (λ k. bid_at bids (slice_index winners k)) e in omega (arith, same))
    | inr ne ↦ (weakest.others i h ne).bids_no_less
  ]

  -- the next bids no more, so it is the weakest
  pub weakest_next : bid_at bids (slice_index winners count)
      ≤ bid_at bids (slice_index winners place)
      → IsWeakest bids winners (count + 1) count
  weakest_next low = record {
    is_place = omega arith;
    others = λ i h ne. record {
      bids_no_less = omega (arith, low, weakest_no_less i (omega (arith, ne)));
      bids_more_behind = λ before.
          absurd (omega (arith, before, ascending i count 0 (omega (arith, ne)) more));
    };
  }

  -- the next bids more
  pub weakest_stays : bid_at bids (slice_index winners place)
      < bid_at bids (slice_index winners count)
      → IsWeakest bids winners (count + 1) place
  weakest_stays high = record {
    is_place = omega (arith, weakest.is_place);
    others = λ i h ne. elim (cases_eq i count) [
      | inl e ↦
          subst (λ k. Beats bids (slice_index winners k) (slice_index winners place)) (sym e)
          (record { bids_no_less = omega arith; bids_more_behind = λ _. high })
      | inr before ↦ weakest.others i (omega (arith, before)) ne
    ];
  }

-- of any winners there is a weakest
weakest_exists : (bids winners : List ℕ) (count : ℕ) → IsAscending winners → count < length winners
    → (place : ℕ) × IsWeakest bids winners (count + 1) place
weakest_exists bids winners zero ascending h = (0, weakest_first bids winners)
weakest_exists bids winners (suc n) ascending h =
    let before = weakest_exists bids winners n ascending (omega arith) in
    let here : IsWeakest bids winners (suc n) before.0 =
    subst (λ m. IsWeakest bids winners m before.0) (add-one n) before.1 in
    elim (cases_lt (bid_at bids (slice_index winners before.0))
    (bid_at bids (slice_index winners (suc n)))) [
      | inl high ↦ (before.0, weakest_stays bids winners (suc n) before.0 ascending h here high)
      | inr low ↦ (suc n, weakest_next bids winners (suc n) before.0 ascending h here low)
    ]

-- the winners without one of them
module _ (winners : List ℕ) (place : ℕ) (inside : place < length winners) where
  removed_from : (x : ℕ) → Contains (remove winners place) x → (i : ℕ) × (i < length winners)
      × (i ≢ place)
      × (slice_index winners i ≡ x)
  removed_from x c =
      let at = found (remove winners place) x c in
      let long = length-remove winners place inside in
      elim (cases_lt at.0 place) [
        | inl before ↦ (
          at.0,
          omega (arith, at.1),
          omega (arith, before),
          sym (get_or-remove_below winners place 0 at.0 before inside) ∙ at.2,
        )
        | inr behind ↦ (
          at.0 + 1,
          omega (arith, at.1),
          omega (arith, behind),
          sym (get_or-remove_above winners place 0 at.0 behind inside) ∙ at.2,
        )
      ]

  stays : (i : ℕ) → i < length winners → i ≢ place
      → Contains (remove winners place) (slice_index winners i)
  stays i h ne =
      let long = length-remove winners place inside in
      elim (cases_lt i place) [
        | inl before ↦
            Contains-place (remove winners place) (slice_index winners i) i (omega arith)
            (get_or-remove_below winners place 0 i before inside)
        | inr behind ↦
            (let next : i - 1 + 1 ≡ i = omega (arith, ne) in
            Contains-place (remove winners place) (slice_index winners i) (i - 1)
            (omega (arith, ne))
            (get_or-remove_above winners place 0 (i - 1) (omega (arith, ne)) inside
            ∙ ap (slice_index winners) next))
      ]

  loser_before : (count x : ℕ) → IsLoser count (remove winners place) x
      → IsLoser count winners x ⊎ (x ≡ slice_index winners place)
  loser_before count x is = elim (cases_eq x (slice_index winners place)) [
    | inl e ↦ inr e
    | inr other ↦
        inl (record {
          is_position = is.is_position;
          loses = λ c.
              let at = found winners x c in
              is.loses (subst (Contains (remove winners place)) at.2
              (stays at.0 at.1 (λ e. other (sym at.2 ∙ ap (slice_index winners) e))));
        })
  ]

  removed_loses : (count : ℕ) → IsAscending winners → All (IsPositionAmong count) winners
      → IsLoser count (remove winners place) (slice_index winners place)
  removed_loses count ascending are = record {
    is_position = are place 0 inside;
    loses = λ c.
        let at = removed_from (slice_index winners place) c in
        elim (cases_lt at.0 place) [
          | inl before ↦ absurd (omega (arith, ascending at.0 place 0 before inside, at.3))
          | inr behind ↦ absurd
              (omega (arith, ascending place at.0 0 (omega (arith, behind, at.2)) at.1, at.3))
        ];
  }

-- without the weakest the others win, and the price is the weakest's bid
module _ (bids winners : List ℕ) (price place : ℕ) (is : IsUniformOutcome bids winners price)
    (weakest : IsWeakest bids winners (length winners) place) where
  rest_are : All (IsPositionAmong (length bids)) (remove winners place)
  rest_are k d h =
      let rest = remove winners place in
      let at = removed_from winners place weakest.is_place (slice_index rest k)
      (Contains-get_or rest k 0 h) in
      subst (IsPositionAmong (length bids)) (at.3 ∙ get_or_default rest k 0 d h)
      (is.are_positions at.0 0 at.1)

  weakest_pays : (loser : ℕ) → IsLoser (length bids) (remove winners place) loser
      → bid_at bids loser ≤ bid_at bids (slice_index winners place)
  weakest_pays loser loses = elim
      (loser_before winners place weakest.is_place (length bids) loser loses) [
        | inl before ↦
            (is.winners_beat (slice_index winners place) loser
            (Contains-get_or winners place 0 weakest.is_place) before).bids_no_less
        | inr e ↦ (let same = ap (bid_at bids) e in omega (arith, same))
      ]

  rest_beat : (winner loser : ℕ) → Contains (remove winners place) winner
      → IsLoser (length bids) (remove winners place) loser → Beats bids winner loser
  rest_beat winner loser wins loses =
      let at = removed_from winners place weakest.is_place winner wins in
      subst (λ w. Beats bids w loser) at.3
      (elim (loser_before winners place weakest.is_place (length bids) loser loses) [
        | inl before ↦
            is.winners_beat (slice_index winners at.0) loser (Contains-get_or winners at.0 0 at.1)
            before
        | inr e ↦ subst (Beats bids (slice_index winners at.0)) (sym e)
            (weakest.others at.0 at.1 at.2)
      ])

  pub without_weakest : IsUniformOutcome bids (remove winners place)
      (bid_at bids (slice_index winners place))
  without_weakest =
      let removed = removed_loses winners place weakest.is_place (length bids) is.ascending
      is.are_positions in
      record {
        are_positions = rest_are;
        ascending =
            all_pairs_remove (λ earlier later. earlier < later) winners place weakest.is_place
            is.ascending;
        winners_beat = rest_beat;
        all_win_for_0 = λ none. absurd (none (slice_index winners place) removed);
        losers_within_price = weakest_pays;
        price_is_bid =
            λ _ _. record {
              holder = slice_index winners place;
              is_loser = removed;
              bids_price = refl;
            };
      }

-- where all win the price is 0
pub all_win : (bids : List ℕ) → IsUniformOutcome bids (positions (length bids)) 0
all_win bids =
    let count = length bids in
    let long = length_listed (λ place. place + 1) count in
    let nobody : (position : ℕ) → ¬ IsLoser count (positions count) position =
    λ position loses. loses.loses (position_listed count position loses.is_position) in
    record {
      are_positions = positions_are count;
      ascending = λ i j d before h.
          let within : j < count = omega arith in
          rw (
            at_listed (λ place. place + 1) count i d (omega arith),
            at_listed (λ place. place + 1) count j d within,
          ) (omega arith);
      winners_beat = λ winner loser _ loses. absurd (nobody loser loses);
      all_win_for_0 = λ _. refl;
      losers_within_price = λ loser loses. absurd (nobody loser loses);
      price_is_bid = λ loser loses. absurd (nobody loser loses);
    }

-- so there is an outcome with any number of winners
fewer_winners : (bids : List ℕ) (gone : ℕ) → gone < length bids
    → (winners : List ℕ) × (price : ℕ) × IsUniformOutcome bids winners price
    × (length winners + gone ≡ length bids)
fewer_winners bids zero h = (
  positions (length bids),
  0,
  all_win bids,
  omega (arith, length_listed (λ place. place + 1) (length bids)),
)
fewer_winners bids (suc n) h =
    let before = fewer_winners bids n (omega arith) in
    let winners = before.0 in
    let weakest =
    weakest_exists bids winners (length winners - 1) before.2.ascending (omega (arith, before.3)) in
    let all : length winners - 1 + 1 ≡ length winners = omega (arith, before.3) in
    let is = subst (λ m. IsWeakest bids winners m weakest.0) all weakest.1 in (
      remove winners weakest.0,
      bid_at bids (slice_index winners weakest.0),
      without_weakest bids winners before.1 weakest.0 before.2 is,
      omega (arith, before.3, length-remove winners weakest.0 is.is_place),
    )

pub outcome_exists : (bids : List ℕ) (units : ℕ) → 1 ≤ units → units ≤ length bids
    → (winners : List ℕ) × (price : ℕ) × IsUniformOutcome bids winners price
    × (length winners ≡ units)
outcome_exists bids units some enough =
    let made = fewer_winners bids (length bids - units) (omega arith) in
    (made.0, made.1, made.2, omega (arith, made.3))

-- an element is not below those before
not_below : (numbers : List ℕ) → IsAscending numbers → (i k : ℕ) → i ≤ k → k < length numbers
    → slice_index numbers i ≤ slice_index numbers k
not_below numbers ascending i k le h = elim (cases_lt i k) [
  | inl before ↦ omega (arith, ascending i k 0 before h)
  | inr e ↦
      (let here : i ≡ k = omega (arith, e) in
      let same = ap (slice_index numbers) here in
      omega (arith, same))
]

-- two ascending lists: where an element of the one is below that of the other at its place, the
-- other has an element that the one hasn't
module _ (less more : List ℕ) (less_ascends : IsAscending less) (more_ascends : IsAscending more) (same : length less ≡ length more) where
  has_other : (left k : ℕ) → k + left ≡ length less → k < length less
      → slice_index less k < slice_index more k
      → (x : ℕ) × Contains more x × ¬ Contains less x
  has_other zero k all h below = absurd (omega arith)
  has_other (suc n) k all h below =
      let x = slice_index more k in
      let is_in = Contains-get_or more k 0 (omega arith) in
      elim (cases_Bool (stands less x)) [
        | inr not_listed ↦ (
          x,
          is_in,
          not_from_Decides (stands less x) (stands_decides less x) not_listed,
        )
        | inl listed ↦
            (let at = found less x ((stands_decides less x).0 listed) in
            elim (cases_lt k at.0) [
              | inr early ↦ absurd (omega (arith, not_below less less_ascends at.0 k early h, at.2))
              | inl late ↦
                  (let next : k + 1 < length less = omega (arith, late, at.1) in
                  has_other n (k + 1) (omega arith) next
                  (omega (
                    arith,
                    not_below less less_ascends (k + 1) at.0 (omega (arith, late)) at.1,
                    at.2,
                    more_ascends k (k + 1) 0 (omega arith) (omega arith),
                  )))
            ])
      ]

  -- and that element itself isn't in the other, where they agree before
  has_not : (k : ℕ) → k < length less → ((j : ℕ) → j < k → slice_index less j ≡ slice_index more j)
      → slice_index less k < slice_index more k
      → ¬ Contains more (slice_index less k)
  has_not k h before below = λ c.
      let at = found more (slice_index less k) c in
      elim (cases_lt at.0 k) [
        | inl early ↦ absurd (omega (arith, before at.0 early, less_ascends at.0 k 0 early h, at.2))
        | inr late ↦ absurd (omega (arith, not_below more more_ascends k at.0 late at.1, at.2))
      ]

-- a winner of the one outcome beats whoever wins in the other alone
beats_other : (bids winners others : List ℕ) (price other : ℕ) → IsUniformOutcome bids winners price
    → IsUniformOutcome bids others other
    → (w v : ℕ) → Contains winners w → Contains others v → ¬ Contains winners v → Beats bids w v
beats_other bids winners others price other is too w v in_winners in_others not_winners =
    is.winners_beat w v in_winners (record {
      is_position = All-contains (IsPositionAmong (length bids)) others v too.are_positions
          in_others;
      loses = not_winners;
    })

module _ (bids winners others : List ℕ) (price other : ℕ) (is : IsUniformOutcome bids winners price) (too : IsUniformOutcome bids others other) where
  -- no two bidders beat each other
  clash : (w v : ℕ) → Contains winners w → ¬ Contains others w → Contains others v
      → ¬ Contains winners v → ⊥
  clash w v in_winners not_others in_others not_winners =
      let beaten = beats_other bids winners others price other is too w v in_winners in_others
      not_winners in
      let back = beats_other bids others winners other price too is v w in_others in_winners
      not_others in
      elim (cases_order v w) [
        | inl e ↦ not_others (subst (Contains others) e in_others)
        | inr (inl before) ↦ absurd
            (omega (arith, beaten.bids_more_behind before, back.bids_no_less))
        | inr (inr behind) ↦ absurd
            (omega (arith, back.bids_more_behind behind, beaten.bids_no_less))
      ]

  not_lower : length winners ≡ length others → (k : ℕ) → k < length winners
      → ((j : ℕ) → j < k → slice_index winners j ≡ slice_index others j)
      → slice_index winners k < slice_index others k → ⊥
  not_lower same k h before below =
      let more =
      has_other winners others is.ascending too.ascending same (length winners - k) k (omega arith)
      h below in
      clash (slice_index winners k) more.0 (Contains-get_or winners k 0 h)
      (has_not winners others is.ascending too.ascending same k h before below) more.1 more.2

-- two outcomes with as many winners are one
module _ (bids winners others : List ℕ) (price other : ℕ) (is : IsUniformOutcome bids winners price) (too : IsUniformOutcome bids others other)
    (same : length winners ≡ length others) where
  same_upto : (n : ℕ) → n ≤ length winners → (k : ℕ) → k < n
      → slice_index winners k ≡ slice_index others k
  same_upto zero within k h = absurd (omega arith)
  same_upto (suc n) within k h =
      let before = same_upto n (omega arith) in
      elim (cases_lt k n) [
        | inl early ↦ before k early
        | inr last ↦
            (let here : k ≡ n = omega (arith, last) in
            subst (λ i. slice_index winners i ≡ slice_index others i) (sym here)
            (elim (cases_order (slice_index winners n) (slice_index others n)) [
              | inl e ↦ e
              | inr (inl low) ↦
                  absurd (not_lower bids winners others price other is too same n (omega arith)
                  before low)
              | inr (inr high) ↦
                  absurd (not_lower bids others winners other price too is (sym same) n
                  (omega arith)
                  (λ j l. sym (before j l)) high)
            ]))
      ]

  pub same_winners : winners ≡ others
  same_winners = ext_get_or 0 winners others same (same_upto (length winners) (omega arith))

-- the price is a loser's bid, or 0
pub price_is_bid_or_0 : (bids winners : List ℕ) (price : ℕ) → IsUniformOutcome bids winners price
    → IsLosersBid bids winners price ⊎ (price ≡ 0)
price_is_bid_or_0 bids winners price is =
    elim (cases_lt 0 (length (losers (length bids) winners))) [
      | inl some ↦ inl (is.price_is_bid _ (losers_lose (length bids) winners 0 0 some))
      | inr none ↦ inr (is.all_win_for_0 (λ position loses.
          omega (arith, none, (loser_listed (length bids) winners position loses).1)))
    ]

-- and it is one
price_below : (bids winners : List ℕ) (price other : ℕ) → IsUniformOutcome bids winners price
    → IsUniformOutcome bids winners other
    → price ≤ other
price_below bids winners price other is too =
    elim (price_is_bid_or_0 bids winners price is) [
      | inl held ↦
          omega (arith, held.bids_price, too.losers_within_price held.holder held.is_loser)
      | inr nothing ↦ omega arith
    ]

pub outcome_is_one : (bids winners others : List ℕ) (price other : ℕ)
    → IsUniformOutcome bids winners price
    → IsUniformOutcome bids others other
    → length winners ≡ length others → (winners ≡ others) × (price ≡ other)
outcome_is_one bids winners others price other is too same =
    let one = same_winners bids winners others price other is too same in
    let here = subst (λ ws. IsUniformOutcome bids ws other) (sym one) too in (
      one,
      omega (
        arith,
        price_below bids winners price other is here,
        price_below bids winners other price here is,
      ),
    )
