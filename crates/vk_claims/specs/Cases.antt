-- Which numbers the public part of a claim may have: tests that compute, and what they decide.
use Rattle.std.specs.Prelude.{ℕ, suc, ◌*◌, ◌^◌, ◌<◌, ◌≤◌, ◌≡◌, ◌≢◌, ◌⊎◌, ◌&&◌, ◌||◌, ◌==◌, Bool, true, not, nat_le, nat_lt, List, [], ◌∷◌, All, AllPairs, length, slice_index, Decides}
use Rattle.std.specs.List.{list_all}
use Rattle.std.proofs.Common.{refl, arith, inl, inr}
use Rattle.std.proofs.lemmas.Bool.{cases_lt, leb-true, le-leb}
use Rattle.std.proofs.lemmas.Bool.Decides.{Decides-and, Decides-by_and, Decides-eqb, Decides-like, Decides-ltb, Decides-not, Decides-or}
use Rattle.std.proofs.lemmas.List.Kept.{AllPairs-cons}
use Rattle.vk_uniform.specs.Losers.{loser_listed, losers_lose}
use Rattle.vk_uniform.specs.Outcomes.{IsLoser, IsPositionAmong}
use Rattle.vk_uniform.specs.UniformPlans.{IsUniformCase, IsUniformInLimits, losers_of, price_of, width_of, winners_of}
use Rattle.vk_matching.specs.MatchingPlans.{IsMatchingCase, matching_of, size_of}
use Rattle.vk_matching.specs.MatchingPlans as ranks
use Rattle.vk_matching.specs.Stability.{IsPerson}

-- ---- tests on numbers

-- a number from 1 to so many
abbrev pub is_among : ℕ → ℕ → Bool
is_among most number = nat_le 1 number && nat_le number most

-- each number and each later one pass the test
abbrev pub all_pairs : (ℕ → ℕ → Bool) → List ℕ → Bool
all_pairs test [] = true
all_pairs test (number ∷ numbers) = list_all (test number) numbers && all_pairs test numbers

abbrev pub differ : ℕ → ℕ → Bool
differ earlier later = not (earlier == later)

-- ---- what they decide

le_decides : (a b : ℕ) → Decides (nat_le a b) (a ≤ b)
le_decides a b = (leb-true a b, le-leb a b)

among_decides : (most number : ℕ) → Decides (is_among most number) ((1 ≤ number) × (number ≤ most))
among_decides most number = Decides-and (nat_le 1 number) (nat_le number most) (le_decides 1 number)
    (le_decides number most)

all_decides : (test : ℕ → Bool) (P : ℕ → Type 0) → ((number : ℕ) → Decides (test number) (P number))
    → (numbers : List ℕ)
    → Decides (list_all test numbers) (All P numbers)
all_decides test P each numbers =
    Decides-by_and test P (list_all test) each refl (λ _ _. refl) numbers

module _ (test : ℕ → ℕ → Bool) (P : ℕ → ℕ → Type 0) (each : (earlier later : ℕ) → Decides (test earlier later) (P earlier later)) where
  later_pass : (number : ℕ) (numbers : List ℕ) → AllPairs P (number ∷ numbers)
      → All (P number) numbers
  later_pass number numbers pairs k d within =
      pairs 0 (suc k) d (omega arith) (omega (arith, within))

  rest_pass : (number : ℕ) (numbers : List ℕ) → AllPairs P (number ∷ numbers) → AllPairs P numbers
  rest_pass number numbers pairs i j d before within =
      pairs (suc i) (suc j) d (omega (arith, before)) (omega (arith, within))

  pairs_decide : (numbers : List ℕ) → Decides (all_pairs test numbers) (AllPairs P numbers)
  pairs_decide [] = (λ _ i j d before within. absurd (omega (arith, within)), λ _. refl)
  pairs_decide (number ∷ numbers) =
      Decides-like (all_pairs test (number ∷ numbers)) (λ h. AllPairs-cons P number numbers h.0 h.1)
      (λ pairs. (later_pass number numbers pairs, rest_pass number numbers pairs))
      (Decides-and (list_all (test number) numbers) (all_pairs test numbers)
      (all_decides (test number) (P number) (each number) numbers) (pairs_decide numbers))

-- ---- the numbers of a sale of equal units

-- whether the width, the price and the winners' positions are within their limits
abbrev pub is_in_limits : ℕ → List ℕ → Bool
is_in_limits inputs numbers =
    nat_le 1 inputs && (nat_le inputs 64 && (nat_le 3 (length numbers)
    && (is_among 40 (width_of numbers)
    && (nat_lt (price_of numbers) (2 ^ width_of numbers)
    && (list_all (is_among inputs) (winners_of numbers)
    && all_pairs nat_lt (winners_of numbers))))))

-- whether a sale of equal units may have these numbers: each is within its limits, and where all
-- win the price is 0
unfoldable pub is_uniform_case : ℕ → List ℕ → Bool
is_uniform_case inputs numbers =
    is_in_limits inputs numbers
    && (nat_lt 0 (length (losers_of inputs numbers)) || price_of numbers == 0)

module _ (inputs : ℕ) (numbers : List ℕ) where
  position_decides : (position : ℕ)
      → Decides (is_among inputs position) (IsPositionAmong inputs position)
  position_decides position =
      Decides-like (is_among inputs position) (λ h. record { some = h.0; within = h.1 })
      (λ is. (is.some, is.within))
      (among_decides inputs position)

  abbrev OwesNothing : Type 0
  OwesNothing = (0 < length (losers_of inputs numbers)) ⊎ (price_of numbers ≡ 0)

  abbrev AllWinFor0 : Type 0
  AllWinFor0 = ((position : ℕ) → ¬ IsLoser inputs (winners_of numbers) position)
      → price_of numbers ≡ 0

  for_nothing : OwesNothing → AllWinFor0
  for_nothing (inl some) = λ nobody.
      absurd (nobody (slice_index (losers_of inputs numbers) 0)
      (losers_lose inputs (winners_of numbers) 0 0 some))
  for_nothing (inr nothing) = λ _. nothing

  owes_nothing : AllWinFor0 → OwesNothing
  owes_nothing all = elim (cases_lt 0 (length (losers_of inputs numbers))) [
    | inl some ↦ inl some
    | inr empty ↦ inr (all (λ position loses.
        absurd (omega (arith, empty, (loser_listed inputs (winners_of numbers) position loses).1))))
  ]

  limits_decide : Decides (is_in_limits inputs numbers) (IsUniformInLimits inputs numbers)
  limits_decide =
      Decides-like (is_in_limits inputs numbers)
      (λ h. record {
        some_inputs = h.0;
        most_inputs = h.1.0;
        enough = h.1.1.0;
        wide = record { least = h.1.1.1.0.0; most = h.1.1.1.0.1 };
        within_width = h.1.1.1.1.0;
        are_positions = h.1.1.1.1.1.0;
        ascending = h.1.1.1.1.1.1;
      })
      (λ is. (
        is.some_inputs,
        (
          is.most_inputs,
          (
            is.enough,
            (
              (is.wide.least, is.wide.most),
              (is.within_width, (is.are_positions, is.ascending)),
            ),
          ),
        ),
      ))
      (Decides-and _ _ (le_decides 1 inputs)
      (Decides-and _ _ (le_decides inputs 64)
      (Decides-and _ _ (le_decides 3 (length numbers))
      (Decides-and _ _ (among_decides 40 (width_of numbers))
      (Decides-and _ _ (Decides-ltb (price_of numbers) (2 ^ width_of numbers))
      (Decides-and _ _
      (all_decides (is_among inputs) (IsPositionAmong inputs) position_decides (winners_of numbers))
      (pairs_decide nat_lt (λ earlier later. earlier < later) Decides-ltb
      (winners_of numbers))))))))

  pub uniform_decides : Decides (is_uniform_case inputs numbers) (IsUniformCase inputs numbers)
  unfolding is_uniform_case
  uniform_decides =
      Decides-like (is_uniform_case inputs numbers)
      (λ h. record { limits = h.0; all_win_for_0 = for_nothing h.1 })
      (λ is. (is.limits, owes_nothing is.all_win_for_0))
      (Decides-and _ _ limits_decide
      (Decides-or _ _ (Decides-ltb 0 (length (losers_of inputs numbers)))
      (Decides-eqb (price_of numbers) 0)))

-- ---- the numbers of a matching

-- whether a matching may have these numbers, which are the width of the ranks and each man's woman:
-- the width and the number of men are within their limits, each has a woman of his own, and there
-- is a rank of each by each
unfoldable pub is_matching_case : ℕ → List ℕ → Bool
is_matching_case inputs numbers =
    is_among 16 (size_of numbers)
    && (is_among 16 (ranks.width_of numbers)
    && (list_all (is_among (size_of numbers)) (matching_of numbers)
    && (all_pairs differ (matching_of numbers)
    && inputs == 2 * size_of numbers * size_of numbers)))

module _ (inputs : ℕ) (numbers : List ℕ) where
  person_decides : (person : ℕ)
      → Decides (is_among (size_of numbers) person) (IsPerson (size_of numbers) person)
  person_decides person =
      Decides-like (is_among (size_of numbers) person) (λ h. record { some = h.0; within = h.1 })
      (λ is. (is.some, is.within))
      (among_decides (size_of numbers) person)

  differ_decides : (earlier later : ℕ) → Decides (differ earlier later) (earlier ≢ later)
  differ_decides earlier later = Decides-not (earlier == later) (Decides-eqb earlier later)

  pub matching_decides : Decides (is_matching_case inputs numbers) (IsMatchingCase inputs numbers)
  unfolding is_matching_case
  matching_decides =
      Decides-like (is_matching_case inputs numbers)
      (λ h. record {
        limits = record {
          some = h.0.0;
          most = h.0.1;
          least_width = h.1.0.0;
          most_width = h.1.0.1;
          all_ranks = h.1.1.1.1;
        };
        permutation = record { one_each = refl; are_persons = h.1.1.0; all_different = h.1.1.1.0 };
      })
      (λ is. (
        (is.limits.some, is.limits.most),
        (
          (is.limits.least_width, is.limits.most_width),
          (is.permutation.are_persons, (is.permutation.all_different, is.limits.all_ranks)),
        ),
      ))
      (Decides-and _ _ (among_decides 16 (size_of numbers))
      (Decides-and _ _ (among_decides 16 (ranks.width_of numbers))
      (Decides-and _ _ (all_decides (is_among (size_of numbers)) (IsPerson (size_of numbers))
      person_decides (matching_of numbers))
      (Decides-and _ _ (pairs_decide differ (λ earlier later. earlier ≢ later) differ_decides
      (matching_of numbers))
      (Decides-eqb inputs (2 * size_of numbers * size_of numbers))))))
