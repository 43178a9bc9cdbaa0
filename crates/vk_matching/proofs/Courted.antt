-- What a question leaves of a courtship in lists.
use Rattle.std.proofs.Common.{ℕ, ◌+◌, ◌*◌, ◌<◌, ◌≤◌, ◌≡◌, ◌≢◌, Bool, true, false, cond, Option, Some, None, is_none, List, ◌⊎◌, inl, inr, length, slice_index_or, slice_set, refl, sym, subst, ◌∙◌, arith}
use Rattle.std.proofs.lemmas.Bool.{cases_lt}
use Rattle.std.proofs.lemmas.Grind.{get_or-set_at}
use Rattle.std.proofs.lemmas.List.{get_or_default, get_or-set_same, get_or-set_other, length-set}
use Rattle.std.proofs.lemmas.Nat.{mul-add-lt}
use Rattle.vk_matching.specs.Courting.{HoldsAsGood, IsBest, IsChoice, IsCourting, court_of, free, held_by}
use Rattle.vk_matching.proofs.Asking.{stays, takes}
use Rattle.vk_matching.proofs.Places.{other_place, some_free, free_after}

-- she held nobody, or he whom she held is without a woman now
grows : (before : Option ℕ) (free_then free_now entered size : ℕ)
    → free_now + cond (is_none before) 1 0 ≡ free_then
    → free_then + entered ≡ size + 1 → free_now + entered ≡ size + cond (is_none before) 0 1
grows (Some _) free_then free_now entered size e all = omega arith
grows None free_then free_now entered size e all = omega arith

module _ {size : ℕ} {ranks : List ℕ} {asked : List Bool} {holders : List (Option ℕ)} {entered suitor : ℕ}
    (courting : IsCourting size ranks asked holders entered (Some suitor)) where
  is_suitor : suitor < size
  is_suitor = omega (arith, courting.rules.without.has_entered suitor refl, courting.rules.entering)

  -- there is a woman whom he can ask: one who is free
  pub has_choice : {choice : Option ℕ}
      → IsChoice (court_of size ranks asked holders) suitor size choice
      → (woman : ℕ) × (choice ≡ Some woman)
  has_choice {choice = Some woman} best = (woman, refl)
  has_choice {choice = None} all =
      let one = courting.are_free in
      let many = courting.rules.entering in
      let found = some_free holders (omega arith) in
      let is_woman : found.0 < size = omega (arith, found.1, courting.lists.one_holder_each) in
      let held = courting.rules.best_held suitor found.0 is_suitor is_woman (all found.0 is_woman)
      in
      let nobody = found.2 in
      let somebody = held.1 in
      absurd (cc)

  pub is_best : {choice : Option ℕ} {woman : ℕ} → choice ≡ Some woman
      → IsChoice (court_of size ranks asked holders) suitor size choice
      → IsBest (court_of size ranks asked holders) suitor size woman
  is_best is chosen = subst (IsChoice (court_of size ranks asked holders) suitor size) is chosen

  module _ {woman place : ℕ} (best : IsBest (court_of size ranks asked holders) suitor size woman)
      (is_place : place ≡ suitor * size + woman) where
    inside : place < length asked
    inside =
        omega (
          arith,
          is_place,
          mul-add-lt suitor size woman size is_suitor best.is_before,
          courting.lists.one_question_each,
        )

    here : slice_index_or (slice_set asked place true) (suitor * size + woman) false ≡ true
    here = get_or-set_at asked place (suitor * size + woman) true false (sym is_place) inside

    there : (man other : ℕ) → other < size → (man ≢ suitor) ⊎ (other ≢ woman)
        → slice_index_or (slice_set asked place true) (man * size + other) false
        ≡ slice_index_or asked (man * size + other) false
    there man other is_other differs =
        get_or-set_other asked place (man * size + other) true false
        (λ same. other_place size suitor woman man other best.is_before is_other differs
        (same ∙ is_place))

    pub after_staying : HoldsAsGood (court_of size ranks asked holders) woman suitor
        → IsCourting size ranks (slice_set asked place true) holders entered (Some suitor)
    after_staying as_good = record {
      lists = record {
        few = courting.lists.few;
        all_ranks = courting.lists.all_ranks;
        one_question_each = length-set asked place true ∙ courting.lists.one_question_each;
        one_holder_each = courting.lists.one_holder_each;
      };
      rules =
          stays courting.rules best
          (λ man other. slice_index_or (slice_set asked place true) (man * size + other) false)
          here there as_good;
      are_free = courting.are_free;
    }

    is_woman : woman < length holders
    is_woman = omega (arith, best.is_before, courting.lists.one_holder_each)

    prefers : ¬ HoldsAsGood (court_of size ranks asked holders) woman suitor → (holder : ℕ)
        → held_by holders woman ≡ Some holder
        → (court_of size ranks asked holders).her_rank woman suitor
        ≤ (court_of size ranks asked holders).her_rank woman holder
    prefers worse holder held =
        let her_rank = (court_of size ranks asked holders).her_rank woman in
        elim (cases_lt (her_rank suitor) (her_rank holder)) [
          | inl better ↦ omega (arith, better)
          | inr as_good ↦ absurd (worse (holder, held, as_good))
        ]

    taken : ¬ HoldsAsGood (court_of size ranks asked holders) woman suitor
        → IsCourting size ranks (slice_set asked place true) (slice_set holders woman (Some suitor))
        entered
        (held_by holders woman)
    taken worse = record {
      lists = record {
        few = courting.lists.few;
        all_ranks = courting.lists.all_ranks;
        one_question_each = length-set asked place true ∙ courting.lists.one_question_each;
        one_holder_each = length-set holders woman (Some suitor) ∙ courting.lists.one_holder_each;
      };
      rules =
          takes courting.rules best
          (λ man other. slice_index_or (slice_set asked place true) (man * size + other) false)
          here there (held_by (slice_set holders woman (Some suitor))) best.is_before
          (get_or-set_same holders woman (Some suitor) None is_woman)
          (λ other differs. get_or-set_other holders woman other (Some suitor) None differs)
          (prefers worse);
      are_free =
          grows (held_by holders woman) (free holders)
          (free (slice_set holders woman (Some suitor))) entered size
          (free_after holders woman suitor is_woman) courting.are_free;
    }

    pub after_taking : {before : Option ℕ} → before ≡ slice_index_or holders woman before
        → ¬ HoldsAsGood (court_of size ranks asked holders) woman suitor
        → IsCourting size ranks (slice_set asked place true) (slice_set holders woman (Some suitor))
        entered before
    after_taking {before} read worse =
        subst
        (IsCourting size ranks (slice_set asked place true) (slice_set holders woman (Some suitor))
        entered)
        (get_or_default holders woman None before is_woman ∙ sym read)
        (taken worse)
