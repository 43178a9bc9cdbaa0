-- The losers as a list.
use Rattle.std.specs.Prelude.{ℕ, zero, suc, ◌+◌, ◌-◌, ◌<◌, ◌≤◌, ◌≡◌, ◌==◌, Bool, true, not, if◌then◌else◌, List, [], ◌∷◌, ◌++◌, All, Contains, filter, length, slice_index, slice_index_or, Decides}
use Rattle.std.specs.List.{list_any}
use Rattle.std.proofs.Common.{refl, sym, ap, ◌∙◌, subst, arith, inl, inr}
use Rattle.std.proofs.lemmas.List.{get_or_default}
use Rattle.std.proofs.lemmas.List.Elements.{All-filter, Contains-get_or, Contains-append_right, Decides-contains, filter_passes}
use Rattle.std.proofs.lemmas.List.Filters.{length-filter_both}
use Rattle.std.proofs.lemmas.List.FromFn.{filter_of_map_range_with_len_more}
use Rattle.std.proofs.lemmas.Bool.{cond_both, cases_lt, false_from_ne_true, not_from_false}
use Rattle.std.proofs.lemmas.Bool.Decides.{Decides-eqb, Decides-by_or, Decides-not}
use Rattle.vk_range.specs.Sets.{listed}
use Rattle.vk_range.specs.SetLaws.{length_listed, at_listed, All-listed}
use Rattle.vk_uniform.specs.Outcomes.{IsPositionAmong, IsAscending, IsLoser}

-- whether a position is in a list
abbrev pub stands : List ℕ → ℕ → Bool
stands positions position = list_any (λ one. one == position) positions

-- the positions of so many bids
abbrev pub positions : ℕ → List ℕ
positions count = listed (λ place. place + 1) count

-- those of them that no winner has, in ascending order
abbrev pub losers : ℕ → List ℕ → List ℕ
losers count winners = filter (λ position. not (stands winners position)) (positions count)

-- an element, by its place
pub found : (xs : List ℕ) (x : ℕ) → Contains xs x → (k : ℕ) × (k < length xs)
    × (slice_index xs k ≡ x)
found xs x c = (c.0, c.1, get_or_default xs c.0 0 x c.1 ∙ c.2)

pub Contains-place : (xs : List ℕ) (x k : ℕ) → k < length xs → slice_index xs k ≡ x → Contains xs x
Contains-place xs x k h e = (k, h, get_or_default xs k x 0 h ∙ e)

pub stands_decides : (xs : List ℕ) (x : ℕ) → Decides (stands xs x) (Contains xs x)
stands_decides xs x =
    Decides-contains xs x (stands xs x)
    (Decides-by_or (λ y. y == x) (λ y. y ≡ x) (λ ys. stands ys x) (λ y. Decides-eqb y x) refl
    (λ _ _. refl) xs)

-- the positions are all that there are
pub positions_are : (count : ℕ) → All (IsPositionAmong count) (positions count)
positions_are count =
    All-listed (IsPositionAmong count) (λ place. place + 1) count
    (λ i h. record { some = omega arith; within = omega arith })

pub position_listed : (count position : ℕ) → IsPositionAmong count position
    → Contains (positions count) position
position_listed count position at =
    let long = length_listed (λ place. place + 1) count in
    Contains-place (positions count) position (position - 1) (omega (arith, at.some, at.within))
    (at_listed (λ place. place + 1) count (position - 1) 0 (omega (arith, at.some, at.within))
    ∙ omega (arith, at.some))

-- what passes a filter is kept
filter_at : (p : ℕ → Bool) (xs : List ℕ) (k x : ℕ) → k < length xs → slice_index_or xs k x ≡ x
    → p x ≡ true
    → Contains (filter p xs) x
filter_at p [] k x h e passes = absurd (omega arith)
filter_at p (y ∷ ys) zero x h e passes =
    subst (λ b. Contains (if b then y ∷ filter p ys else filter p ys) x) (sym (ap p e ∙ passes))
    (0, omega arith, e)
filter_at p (y ∷ ys) (suc k) x h e passes =
    let kept = filter_at p ys k x (omega arith) e passes in
    cond_both (p y) (y ∷ filter p ys) (filter p ys) (λ rest. Contains rest x)
    (λ _. Contains-append_right (y ∷ []) (filter p ys) x kept) (λ _. kept)

module _ (count : ℕ) (winners : List ℕ) where
  -- the listed losers are losers, and each loser is listed
  pub losers_lose : All (IsLoser count winners) (losers count winners)
  losers_lose k d h =
      let test : ℕ → Bool = λ position. not (stands winners position) in
      let one = slice_index_or (losers count winners) k d in
      record {
        is_position = All-filter test (IsPositionAmong count) (positions count)
            (positions_are count) k d h;
        loses =
            (Decides-not (stands winners one) (stands_decides winners one)).0
            (filter_passes test (positions count) k d h);
      }

  pub losers_are : All (IsPositionAmong count) (losers count winners)
  losers_are k d h = (losers_lose k d h).is_position

  pub loser_listed : (position : ℕ) → IsLoser count winners position
      → Contains (losers count winners) position
  loser_listed position is =
      let at = position_listed count position is.is_position in
      let none =
      false_from_ne_true (stands winners position)
      (λ stands. is.loses ((stands_decides winners position).0 stands)) in
      filter_at (λ one. not (stands winners one)) (positions count) at.0 position at.1 at.2
      (not_from_false (stands winners position) none)

  -- where somebody wins, not all lose
  pub few_losers : 1 ≤ length winners → All (IsPositionAmong count) winners
      → length (losers count winners) + 1 ≤ count
  few_losers some are =
      let first = slice_index winners 0 in
      let at = position_listed count first (are 0 0 some) in
      let wins = (stands_decides winners first).1 (Contains-get_or winners 0 0 some) in
      let kept = filter_at (stands winners) (positions count) at.0 first at.1 at.2 wins in
      omega (
        arith,
        kept.1,
        length-filter_both (stands winners) (λ position. not (stands winners position)) (λ _. refl)
            (positions count),
        length_listed (λ place. place + 1) count,
      )

  -- one position more
  pub losers_more : losers (count + 1) winners
      ≡ losers count winners ++ (if not (stands winners (count + 1)) then (count + 1) ∷ [] else [])
  losers_more =
      filter_of_map_range_with_len_more (λ position. not (stands winners position))
      (λ place. place + 1) 0 count count (omega arith)

-- ascending positions are not more than there are
ascends_past : (numbers : List ℕ) → IsAscending numbers → All (λ number. 1 ≤ number) numbers
    → (i : ℕ)
    → i < length numbers
    → i + 1 ≤ slice_index numbers i
ascends_past numbers ascending some zero h = omega (arith, some 0 0 h)
ascends_past numbers ascending some (suc n) h =
    omega (
      arith,
      ascends_past numbers ascending some n (omega arith),
      ascending n (suc n) 0 (omega arith) h,
    )

pub few_winners : (count : ℕ) (winners : List ℕ) → All (IsPositionAmong count) winners
    → IsAscending winners
    → length winners ≤ count
few_winners count winners are ascending =
    let last = length winners - 1 in
    elim (cases_lt 0 (length winners)) [
      | inr none ↦ omega arith
      | inl some ↦
          omega (
            arith,
            ascends_past winners ascending (λ k d h. (are k d h).some) last (omega arith),
            (are last 0 (omega arith)).within,
          )
    ]
