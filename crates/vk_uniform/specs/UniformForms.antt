-- The forms of the plan: how many there are, which wires they name, and what they come to in whole
-- numbers.
use Rattle.std.specs.Prelude.{ℕ, ◌+◌, ◌*◌, ◌<◌, ◌≡◌, List, [], ◌∷◌, ◌++◌, All, Contains, flat_map, length, map, slice_index, slice_index_or}
use Rattle.std.proofs.Common.{◌∙◌, subst, arith, length-append, suc-mul}
use Rattle.std.proofs.lemmas.List.{length-map, get_or-map}
use Rattle.std.proofs.lemmas.List.Elements.{All-nil, All-cons, All-head, All-tail, All-append, All-map, All-contains, Contains-get_or}
use Rattle.vk_plan.specs.declared.form.Form.{Form}
use Rattle.vk_range.specs.SetLaws.{length_listed, All-listed}
use Rattle.vk_range.specs.RangedLaws.{All-front, All-back, listed_each}
use Rattle.vk_uniform.specs.UniformPlans.{price_of, winners_of, losers_of, copy_at, bid_form, win_form, price_form, bid_forms, win_forms, price_forms, uniform_forms}

-- what is so of each list of a series is so of all that it joins, and back
module _ (P : Form → Type 0) (f : ℕ → List Form) where
  All-flat_map : (xs : List ℕ) → All (λ x. All P (f x)) xs → All P (flat_map f xs)
  All-flat_map [] each = All-nil P
  All-flat_map (x ∷ xs) each =
      All-append P (f x) (flat_map f xs) (All-head (λ y. All P (f y)) x xs each)
      (All-flat_map xs (All-tail (λ y. All P (f y)) x xs each))

  flat_map-All : (xs : List ℕ) → All P (flat_map f xs) → All (λ x. All P (f x)) xs
  flat_map-All [] all = All-nil (λ y. All P (f y))
  flat_map-All (x ∷ xs) all =
      All-cons (λ y. All P (f y)) x xs (All-front P (f x) (flat_map f xs) all)
      (flat_map-All xs (All-back P (f x) (flat_map f xs) all))

length_joined : (f : ℕ → List Form) (each : ℕ) (xs : List ℕ) → ((x : ℕ) → length (f x) ≡ each)
    → length (flat_map f xs) ≡ length xs * each
length_joined f each [] same = omega arith
length_joined f each (x ∷ xs) same =
    omega (
      arith,
      length-append (f x) (flat_map f xs),
      same x,
      length_joined f each xs same,
      suc-mul (length xs) each,
    )

map-All : (P : Form → Type 0) (f : ℕ → Form) (xs : List ℕ) → All P (map f xs)
    → All (λ x. P (f x)) xs
map-All P f xs all k d h = subst P (get_or-map f xs k d (f d) h)
    (all k (f d) (omega (arith, length-map xs f)))

-- from each element to all
each-All : (P : ℕ → Type 0) (xs : List ℕ) → ((x : ℕ) → Contains xs x → P x) → All P xs
each-All P xs each k d h = each (slice_index_or xs k d) (Contains-get_or xs k d h)

module _ (inputs : ℕ) (numbers : List ℕ) where
  pub length_forms : length (uniform_forms inputs numbers)
      ≡ inputs + length (winners_of numbers) * length (losers_of inputs numbers)
      + length (losers_of inputs numbers)
  length_forms =
      let outside = losers_of inputs numbers in
      length-append (bid_forms inputs ++ win_forms inputs numbers) (price_forms inputs numbers)
      ∙ omega (
        arith,
        length-append (bid_forms inputs) (win_forms inputs numbers),
        length_listed (bid_form inputs) inputs,
        length_joined (λ winner. map (win_form inputs winner) outside) (length outside)
            (winners_of numbers)
            (λ winner. length-map outside (win_form inputs winner)),
        length-map outside (price_form inputs (price_of numbers)),
      )

  -- what is so of the forms of each kind is so of all, and back
  pub record AreForms (P : Form → Type 0) : Type 0 where
    pub of_bids : (place : ℕ) → place < inputs → P (bid_form inputs place)
    pub of_wins : (winner loser : ℕ) → Contains (winners_of numbers) winner
        → Contains (losers_of inputs numbers) loser → P (win_form inputs winner loser)
    pub of_prices : (loser : ℕ) → Contains (losers_of inputs numbers) loser
        → P (price_form inputs (price_of numbers) loser)

  module _ (P : Form → Type 0) where
    pub All-forms : AreForms P → All P (uniform_forms inputs numbers)
    All-forms each =
        let outside = losers_of inputs numbers in
        let wins : (winner : ℕ) → Contains (winners_of numbers) winner
        → All P (map (win_form inputs winner) outside) =
        λ winner wins. All-map P (win_form inputs winner) outside
        (each-All (λ loser. P (win_form inputs winner loser)) outside
        (λ loser loses. each.of_wins winner loser wins loses)) in
        All-append P (bid_forms inputs ++ win_forms inputs numbers) (price_forms inputs numbers)
        (All-append P (bid_forms inputs) (win_forms inputs numbers)
        (All-listed P (bid_form inputs) inputs each.of_bids)
        (All-flat_map P (λ winner. map (win_form inputs winner) outside) (winners_of numbers)
        (each-All (λ winner. All P (map (win_form inputs winner) outside)) (winners_of numbers)
        wins)))
        (All-map P (price_form inputs (price_of numbers)) outside
        (each-All (λ loser. P (price_form inputs (price_of numbers) loser)) outside each.of_prices))

    pub forms-All : All P (uniform_forms inputs numbers) → AreForms P
    forms-All all =
        let outside = losers_of inputs numbers in
        let front =
        All-front P (bid_forms inputs ++ win_forms inputs numbers) (price_forms inputs numbers) all
        in
        let each =
        flat_map-All P (λ winner. map (win_form inputs winner) outside) (winners_of numbers)
        (All-back P (bid_forms inputs) (win_forms inputs numbers) front) in
        let wins : (winner : ℕ) → Contains (winners_of numbers) winner
        → All P (map (win_form inputs winner) outside) =
        λ winner wins. All-contains (λ one. All P (map (win_form inputs one) outside))
        (winners_of numbers) winner each wins in
        record {
          of_bids =
              listed_each P (bid_form inputs) inputs
              (All-front P (bid_forms inputs) (win_forms inputs numbers) front);
          of_wins = λ winner loser is loses.
              All-contains (λ one. P (win_form inputs winner one)) outside loser
              (map-All P (win_form inputs winner) outside (wins winner is)) loses;
          of_prices = λ loser loses.
              All-contains (λ one. P (price_form inputs (price_of numbers) one)) outside loser
              (map-All P (price_form inputs (price_of numbers)) outside
              (All-back P (bid_forms inputs ++ win_forms inputs numbers)
              (price_forms inputs numbers) all)) loses;
        }

-- the bid at a position, as its copy has it
abbrev pub copied : ℕ → List ℕ → ℕ → ℕ
copied inputs values position = slice_index values (copy_at inputs position)
