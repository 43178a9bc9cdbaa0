-- The plan of a sale of equal units shows its outcome, and every outcome can be shown.
use Rattle.std.specs.Prelude.{ℕ, ◌+◌, ◌-◌, ◌*◌, ◌<◌, ◌≤◌, ◌≡◌, ◌≢◌, Bool, if◌then◌else◌, nat_lt, List, [], ◌∷◌, ◌++◌, All, Contains, length, take, slice_index}
use Rattle.std.proofs.Common.{refl, sym, ap, ◌∙◌, subst, arith, inl, inr, length-append, get_or-take, mul-le-mul_left, mul-le-mul_right}
use Rattle.std.proofs.lemmas.List.{nil_from_length, length-map, get_or-map, get_or_default, length-take-le, length-drop, take-take, take-append-le}
use Rattle.std.proofs.lemmas.List.Elements.{All-map, All-contains}
use Rattle.std.proofs.lemmas.Bool.{cases_lt, eq-eqb, ne_eqb}
use Rattle.std.proofs.lemmas.Bool.Decides.{eqb_tells}
use Rattle.vk_residue.specs.Residue.{modulus}
use Rattle.vk_plan.specs.declared.form.Form.{Form}
use Rattle.vk_plan.specs.Forms.{form_value, NamesBelow}
use Rattle.vk_plan.specs.Plans.{PlanValue, IsPlan, Holds}
use Rattle.vk_plan.specs.PlanLaws.{Holds-before}
use Rattle.vk_range.specs.Sets.{IsOfWidth, plus, minus}
use Rattle.vk_range.specs.Laws.{difference_names, one_name}
use Rattle.vk_range.specs.Copies.{BeginsWith, begins_alone, begins_longer}
use Rattle.vk_range.specs.Ranges.{ranges_values}
use Rattle.vk_range.specs.Ranged.{IsRanged, MayBeFilled, AreRanged, ranged_plan, ranged_values}
use Rattle.vk_range.specs.RangedLaws.{ranged_is_plan, ranged_sound, ranged_of_width, ranged_begins, ranged_wires, ranged_rows}
use Rattle.vk_range.specs.Selected.{IsSelection, IsSelected, place_row, selected_wires, selected_rows, selected_values}
use Rattle.vk_range.specs.SelectedLaws.{length_selected, selected_sound, selected_complete}
use Rattle.vk_range.specs.SetLaws.{length_listed}
use Rattle.vk_range.specs.Rooms.{selected_room}
use Rattle.vk_range.specs.Differences.{width_small, wire_value, wire_within, limit_shown, limit_within, order_shown, order_within}
use Rattle.vk_range.specs.Holders.{value_at, selected_holds, holder_selected}
use Rattle.vk_uniform.specs.Outcomes.{IsPositionAmong, IsLoser, Beats, bid_at}
use Rattle.vk_uniform.specs.Losers.{found, losers, losers_lose, loser_listed, few_losers, few_winners}
use Rattle.vk_uniform.specs.UniformPlans.{IsUniformCase, IsUniformInLimits, IsUniformClaim, width_of, price_of, winners_of, losers_of, copy_at, win_form, uniform_ranges, price_selection, with_selection, uniform_plan, uniform_values, wire_count, row_count}
use Rattle.vk_uniform.specs.UniformForms.{AreForms, All-forms, forms-All, length_forms, copied}

-- the numbers are the width, the price and the winners
pub split_numbers : (numbers : List ℕ) → 3 ≤ length numbers
    → width_of numbers ∷ price_of numbers ∷ winners_of numbers ≡ numbers
split_numbers [] enough = absurd (omega arith)
split_numbers (width ∷ []) enough = absurd (omega arith)
split_numbers (width ∷ price ∷ winners) enough = refl

-- the price where nobody is listed as a loser
module _ (inputs : ℕ) (numbers : List ℕ) where
  case_of : IsUniformInLimits inputs numbers
      → (losers_of inputs numbers ≡ [] → price_of numbers ≡ 0)
      → IsUniformCase inputs numbers
  case_of limits none = record {
    limits = limits;
    all_win_for_0 = λ nobody. elim (cases_lt 0 (length (losers_of inputs numbers))) [
      | inl some ↦
          absurd (nobody (slice_index (losers_of inputs numbers) 0)
          (losers_lose inputs (winners_of numbers) 0 0 some))
      | inr empty ↦ none (nil_from_length (losers_of inputs numbers) (omega (arith, empty)))
    ];
  }

  price_alone : IsUniformCase inputs numbers → losers_of inputs numbers ≡ [] → price_of numbers ≡ 0
  price_alone case none =
      case.all_win_for_0 (λ position loses.
      let long = ap length none in
      absurd (omega (arith, long, (loser_listed inputs (winners_of numbers) position loses).1)))

-- the numbers of a plan that is made of numbers within their limits
module _ (inputs price : ℕ) (numbers winners outside : List ℕ) (limits : IsUniformInLimits inputs numbers) (price_is : price ≡ price_of numbers)
    (winners_are : winners ≡ winners_of numbers) (outside_are : outside ≡ losers inputs winners) where
  pub made_numbers : width_of numbers ∷ price ∷ winners ≡ numbers
  made_numbers =
      ap (λ p. width_of numbers ∷ p ∷ winners) price_is
      ∙ ap (λ ws. width_of numbers ∷ price_of numbers ∷ ws) winners_are
      ∙ split_numbers numbers limits.enough

  same_losers : losers_of inputs numbers ≡ outside
  same_losers = ap (losers inputs) (sym winners_are) ∙ sym outside_are

  pub made_case : (outside ≡ [] → price ≡ 0) → IsUniformCase inputs numbers
  made_case none = case_of inputs numbers limits
      (λ empty. sym price_is ∙ none (sym same_losers ∙ empty))

  pub made_in_limits : (outside ≡ [] → price ≡ 0)
      → IsUniformCase inputs (width_of numbers ∷ price ∷ winners)
  made_in_limits none = subst (IsUniformCase inputs) (sym made_numbers) (made_case none)

  pub made_free : IsUniformCase inputs numbers → outside ≡ [] → price ≡ 0
  made_free case empty = price_is ∙ price_alone inputs numbers case (same_losers ∙ empty)

pub price_below_modulus : (inputs : ℕ) (numbers : List ℕ) → IsUniformCase inputs numbers
    → price_of numbers < modulus
price_below_modulus inputs numbers case =
    omega (arith, case.limits.within_width, width_small (width_of numbers) case.limits.wide.most)

-- the plan and the values by whether somebody loses
module _ (inputs : ℕ) (numbers : List ℕ) where
  pub plan_alone : length (losers_of inputs numbers) ≡ 0 → uniform_plan inputs numbers
      ≡ ranged_plan inputs (uniform_ranges inputs numbers)
  unfolding uniform_plan
  plan_alone none =
      let plan = ranged_plan inputs (uniform_ranges inputs numbers) in
      ap (λ b. if b then plan else with_selection plan (price_selection inputs numbers))
      (eq-eqb (length (losers_of inputs numbers)) 0 none)

  pub plan_many : length (losers_of inputs numbers) ≢ 0
      → uniform_plan inputs numbers
      ≡ with_selection (ranged_plan inputs (uniform_ranges inputs numbers))
      (price_selection inputs numbers)
  unfolding uniform_plan
  plan_many some =
      let plan = ranged_plan inputs (uniform_ranges inputs numbers) in
      ap (λ b. if b then plan else with_selection plan (price_selection inputs numbers))
      (ne_eqb (length (losers_of inputs numbers)) 0 some)

  module _ (bids : List ℕ) where
    pub values_alone : length (losers_of inputs numbers) ≡ 0 → uniform_values inputs numbers bids
        ≡ ranged_values bids (uniform_ranges inputs numbers)
    unfolding uniform_values
    values_alone none =
        let before = ranged_values bids (uniform_ranges inputs numbers) in
        ap (λ b. if b then before
        else before ++ selected_values (price_selection inputs numbers) before)
        (eq-eqb (length (losers_of inputs numbers)) 0 none)

    pub values_many : length (losers_of inputs numbers) ≢ 0
        → uniform_values inputs numbers bids
        ≡ ranged_values bids (uniform_ranges inputs numbers)
        ++ selected_values (price_selection inputs numbers)
        (ranged_values bids (uniform_ranges inputs numbers))
    unfolding uniform_values
    values_many some =
        let before = ranged_values bids (uniform_ranges inputs numbers) in
        ap (λ b. if b then before
        else before ++ selected_values (price_selection inputs numbers) before)
        (ne_eqb (length (losers_of inputs numbers)) 0 some)

pub small_product : (a b : ℕ) → a ≤ 64 → b ≤ 64 → a * b ≤ 4096
small_product a b few small = omega (arith, mul-le-mul_right b few, mul-le-mul_left 64 small)

copy_below : (inputs position : ℕ) → IsPositionAmong inputs position
    → copy_at inputs position < inputs + inputs
copy_below inputs position at = omega (arith, at.some, at.within)

module _ (inputs : ℕ) (numbers : List ℕ) (case : IsUniformCase inputs numbers) where
  loser_is : (loser : ℕ) → Contains (losers_of inputs numbers) loser
      → IsLoser inputs (winners_of numbers) loser
  loser_is loser loses =
      All-contains (IsLoser inputs (winners_of numbers)) (losers_of inputs numbers) loser
      (losers_lose inputs (winners_of numbers)) loses

  winner_is : (winner : ℕ) → Contains (winners_of numbers) winner → IsPositionAmong inputs winner
  winner_is winner wins =
      All-contains (IsPositionAmong inputs) (winners_of numbers) winner case.limits.are_positions
      wins

  pub some_loses_not_all : length (losers_of inputs numbers) + 1 ≤ inputs
  some_loses_not_all =
      few_losers inputs (winners_of numbers)
      (omega (arith, case.limits.enough, length-drop 2 numbers)) case.limits.are_positions

  pub uniform_ranged : IsRanged inputs (uniform_ranges inputs numbers)
  uniform_ranged =
      let Named : Form → Type 0 = λ form. NamesBelow (inputs + inputs) form.terms in
      let winning = few_winners inputs (winners_of numbers) case.limits.are_positions
      case.limits.ascending in
      record {
        some = case.limits.some_inputs;
        most = omega (arith, case.limits.most_inputs);
        fits = record {
          names = All-forms inputs numbers Named (record {
            of_bids = λ place h. one_name (inputs + inputs) (plus (inputs + place)) (omega arith);
            of_wins = λ winner loser wins loses.
                difference_names (inputs + inputs) (copy_at inputs winner) (copy_at inputs loser)
                (nat_lt loser winner)
                (copy_below inputs winner (winner_is winner wins))
                (copy_below inputs loser (loser_is loser loses).is_position);
            of_prices =
                λ loser loses. one_name (inputs + inputs) (minus (copy_at inputs loser))
                (copy_below inputs loser (loser_is loser loses).is_position);
          });
          wide = case.limits.wide;
        };
        few = omega (
          arith,
          length_forms inputs numbers,
          some_loses_not_all,
          case.limits.most_inputs,
          small_product (length (winners_of numbers)) (length (losers_of inputs numbers))
              (omega (arith, winning, case.limits.most_inputs))
              (omega (arith, some_loses_not_all, case.limits.most_inputs)),
        );
      }

  pub selection_fits : (wires : ℕ) → inputs + inputs ≤ wires → length (losers_of inputs numbers) ≢ 0
      → IsSelection (price_selection inputs numbers) wires
  selection_fits wires enough some =
      let outside = losers_of inputs numbers in
      let long = length-map outside (copy_at inputs) in
      record {
        names = All-map (λ wire. wire < wires) (copy_at inputs) outside
            (λ k d h. omega (
              arith,
              copy_below inputs _ (losers_lose inputs (winners_of numbers) k d h).is_position,
              enough,
            ));
        one = omega (arith, some);
        most = omega (arith, some_loses_not_all, case.limits.most_inputs);
        wide = case.limits.wide;
      }

-- what holds for the plan before the selection
module _ (inputs : ℕ) (numbers values : List ℕ) (case : IsUniformCase inputs numbers)
    (ranged : AreRanged inputs (uniform_ranges inputs numbers) values) where
  shown : AreForms inputs numbers (λ form. IsOfWidth (width_of numbers) (form_value form values))
  shown =
      forms-All inputs numbers (λ form. IsOfWidth (width_of numbers) (form_value form values))
      ranged.of_width

  place_small : (place : ℕ) → place < inputs
      → IsOfWidth (width_of numbers) (slice_index values (inputs + place))
  place_small place h =
      subst (IsOfWidth (width_of numbers))
      (wire_value (inputs + place) values
      (ranged.residues (inputs + place) 0 (omega (arith, ranged.enough))))
      (shown.of_bids place h)

  copy_small : (position : ℕ) → IsPositionAmong inputs position
      → IsOfWidth (width_of numbers) (copied inputs values position)
  copy_small position at = place_small (position - 1) (omega (arith, at.some, at.within))

  bid_shown : (position : ℕ) → IsPositionAmong inputs position
      → bid_at (take inputs values) position
      ≡ copied inputs values position
  bid_shown position at =
      let inside : position - 1 < inputs = omega (arith, at.some, at.within) in
      get_or-take inputs values (position - 1) 0 inside ∙ ranged.copied (position - 1) inside

  beats_shown : (winner loser : ℕ) → Contains (winners_of numbers) winner
      → IsLoser inputs (winners_of numbers) loser
      → Beats (take inputs values) winner loser
  beats_shown winner loser wins loses =
      let first = winner_is inputs numbers case winner wins in
      let second = loses.is_position in
      let form = shown.of_wins winner loser wins
      (loser_listed inputs (winners_of numbers) loser loses) in
      let found =
      order_shown (width_of numbers) case.limits.wide.most values (copy_at inputs winner)
      (copy_at inputs loser) loser winner (copy_small winner first) (copy_small loser second) form
      in
      let here = bid_shown winner first in
      let there = bid_shown loser second in
      record {
        bids_no_less = omega (arith, found.0, here, there);
        bids_more_behind = λ before. omega (arith, found.1 before, here, there);
      }

  copy_within_price : (loser : ℕ) → IsLoser inputs (winners_of numbers) loser
      → copied inputs values loser ≤ price_of numbers
  copy_within_price loser loses =
      limit_shown (width_of numbers) case.limits.wide.most values (price_of numbers)
      (copy_at inputs loser) case.limits.within_width (copy_small loser loses.is_position)
      (shown.of_prices loser (loser_listed inputs (winners_of numbers) loser loses))

  holder_shown : (place : ℕ) → IsSelected (price_selection inputs numbers) values place
      → (loser : ℕ) × IsLoser inputs (winners_of numbers) loser
      × (copied inputs values loser ≡ price_of numbers)
  holder_shown place selected =
      let outside = losers_of inputs numbers in
      let relation = price_selection inputs numbers in
      let long = length-map outside (copy_at inputs) in
      let read : (place : ℕ) → place < length outside
      → value_at relation values place ≡ copied inputs values (slice_index outside place) =
      λ place h. ap (slice_index values) (get_or-map (copy_at inputs) outside place 0 0 h) in
      let loses : (place : ℕ) → place < length outside
      → IsLoser inputs (winners_of numbers) (slice_index outside place) =
      λ place h. losers_lose inputs (winners_of numbers) place 0 h in
      let low : (place : ℕ) → place < length relation.wires
      → value_at relation values place ≤ price_of numbers =
      λ place h.
      let inside : place < length outside = omega arith in
      omega (
        arith,
        read place inside,
        copy_within_price (slice_index outside place) (loses place inside),
      ) in
      let inside : place < length outside = omega (arith, selected.is_place) in (
        slice_index outside place,
        loses place inside,
        sym (read place inside) ∙ selected_holds relation values case.limits.wide.most
            case.limits.within_width low place selected,
      )

  claim_shown : (length (losers_of inputs numbers) ≢ 0 → (place : ℕ)
      × IsSelected (price_selection inputs numbers) values place)
      → IsUniformClaim inputs numbers (take inputs values)
  claim_shown held =
      let bids = take inputs values in
      let winners = winners_of numbers in
      let long = length-take-le inputs values (omega (arith, ranged.enough)) in
      let there : (loser : ℕ) → IsLoser (length bids) winners loser → IsLoser inputs winners loser =
      λ loser. subst (λ n. IsLoser n winners loser) long in
      let back : (loser : ℕ) → IsLoser inputs winners loser → IsLoser (length bids) winners loser =
      λ loser. subst (λ n. IsLoser n winners loser) (sym long) in
      record {
        one_each = long;
        within_width = λ k d h.
            let inside : k < inputs = omega (arith, long) in
            rw (
              get_or_default bids k d 0 h,
              get_or-take inputs values k 0 inside,
              ranged.copied k inside,
            )
            (place_small k inside);
        outcome = record {
          are_positions = subst (λ n. All (IsPositionAmong n) winners) (sym long)
              case.limits.are_positions;
          ascending = case.limits.ascending;
          winners_beat = λ winner loser wins loses. beats_shown winner loser wins
              (there loser loses);
          all_win_for_0 =
              λ nobody. case.all_win_for_0
              (λ position loses. nobody position (back position loses));
          losers_within_price = λ loser loses.
              omega (
                arith,
                bid_shown loser (there loser loses).is_position,
                copy_within_price loser (there loser loses),
              );
          price_is_bid = λ loser loses.
              let some = (loser_listed inputs winners loser (there loser loses)).1 in
              let selected = held (omega (arith, some)) in
              let found = holder_shown selected.0 selected.1 in
              record {
                holder = found.0;
                is_loser = back found.0 found.1;
                bids_price = bid_shown found.0 found.1.is_position ∙ found.2;
              };
        };
      }

module _ (inputs : ℕ) (numbers : List ℕ) (case : IsUniformCase inputs numbers) where
  pub selection_room : length (losers_of inputs numbers) ≢ 0
      → IsPlan (with_selection (ranged_plan inputs (uniform_ranges inputs numbers))
      (price_selection inputs numbers))
  selection_room some =
      let ranges = uniform_ranges inputs numbers in
      let relation = price_selection inputs numbers in
      let is = uniform_ranged inputs numbers case in
      let wires = ranged_wires inputs ranges in
      let losing = length-map (losers_of inputs numbers) (copy_at inputs) in
      let few = some_loses_not_all inputs numbers case in
      let winning = few_winners inputs (winners_of numbers) case.limits.are_positions
      case.limits.ascending in
      let pairs =
      small_product (length (winners_of numbers)) (length (losers_of inputs numbers))
      (omega (arith, winning, case.limits.most_inputs))
      (omega (arith, few, case.limits.most_inputs)) in
      let forms : length ranges.forms ≤ 8192 =
      omega (arith, length_forms inputs numbers, few, case.limits.most_inputs, pairs) in
      let sets =
      small_product (length relation.wires) (width_of numbers)
      (omega (arith, few, case.limits.most_inputs))
      (omega (arith, case.limits.wide.most)) in
      selected_room (ranged_plan inputs ranges) relation (ranged_is_plan inputs ranges is)
      (selection_fits inputs numbers case (length (ranged_plan inputs ranges).kinds)
      (omega (arith, wires)) some)
      (omega (
        arith,
        wires,
        few,
        case.limits.most_inputs,
        sets,
        mul-le-mul_right (width_of numbers) forms,
        case.limits.wide.most,
      ))
      (omega (arith, ranged_rows inputs ranges, forms, few, case.limits.most_inputs))

  pub uniform_is_plan : IsPlan (uniform_plan inputs numbers)
  uniform_is_plan =
      elim (eqb_tells (length (losers_of inputs numbers)) 0) [
        | inl none ↦
            subst IsPlan (sym (plan_alone inputs numbers none.1))
            (ranged_is_plan inputs (uniform_ranges inputs numbers)
            (uniform_ranged inputs numbers case))
        | inr some ↦ subst IsPlan (sym (plan_many inputs numbers some.1)) (selection_room some.1)
      ]

  pub uniform_sound : (values : List ℕ) → Holds (uniform_plan inputs numbers) values
      → IsUniformClaim inputs numbers (take inputs values)
  uniform_sound values holds =
      let ranges = uniform_ranges inputs numbers in
      let relation = price_selection inputs numbers in
      let is = uniform_ranged inputs numbers case in
      let plan = ranged_plan inputs ranges in
      let start = length plan.kinds in
      elim (eqb_tells (length (losers_of inputs numbers)) 0) [
        | inl none ↦
            claim_shown inputs numbers values case
            (ranged_sound inputs ranges is values
            (subst (λ p. Holds p values) (plan_alone inputs numbers none.1) holds))
            (λ some. absurd (some none.1))
        | inr some ↦
            (let holds' = subst (λ p. Holds p values) (plan_many inputs numbers some.1) holds in
            let own = (ranged_is_plan inputs ranges is).names in
            let wires = ranged_wires inputs ranges in
            let enough : inputs ≤ start = omega (arith, wires) in
            let before =
            Holds-before plan (selected_wires relation) (selected_rows relation start) values own
            holds' in
            let selected =
            selected_sound relation plan values own
            (selection_fits inputs numbers case start (omega (arith, wires)) some.1) holds' in
            subst (IsUniformClaim inputs numbers) (take-take inputs start values enough)
            (claim_shown inputs numbers (take start values) case
            (ranged_sound inputs ranges is (take start values) before) (λ _. selected)))
      ]

-- what the claim says of values that begin with the bids and their copies
module _ (inputs : ℕ) (numbers bids values : List ℕ) (case : IsUniformCase inputs numbers) (claim : IsUniformClaim inputs numbers bids)
    (begins : BeginsWith bids values) where
  copy_here : (place : ℕ) → place < inputs
      → slice_index values (inputs + place) ≡ slice_index bids place
  copy_here place h =
      subst (λ n. slice_index values (n + place) ≡ slice_index bids place) claim.one_each
      (begins.copied place (omega (arith, claim.one_each)))

  place_below : (place : ℕ) → place < inputs
      → IsOfWidth (width_of numbers) (slice_index values (inputs + place))
  place_below place h =
      subst (IsOfWidth (width_of numbers)) (sym (copy_here place h))
      (claim.within_width place 0 (omega (arith, claim.one_each)))

  pub bid_here : (position : ℕ) → IsPositionAmong inputs position → copied inputs values position
      ≡ bid_at bids position
  bid_here position at = copy_here (position - 1) (omega (arith, at.some, at.within))

  loser_here : (loser : ℕ) → IsLoser inputs (winners_of numbers) loser
      → IsLoser (length bids) (winners_of numbers) loser
  loser_here loser = subst (λ n. IsLoser n (winners_of numbers) loser) (sym claim.one_each)

  pub within_price : (loser : ℕ) → IsLoser inputs (winners_of numbers) loser
      → copied inputs values loser ≤ price_of numbers
  within_price loser loses =
      omega (
        arith,
        bid_here loser loses.is_position,
        claim.outcome.losers_within_price loser (loser_here loser loses),
      )

  wins_fit : (winner loser : ℕ) → Contains (winners_of numbers) winner
      → IsLoser inputs (winners_of numbers) loser
      → IsOfWidth (width_of numbers) (form_value (win_form inputs winner loser) values)
  wins_fit winner loser wins loses =
      let first = winner_is inputs numbers case winner wins in
      let beaten = claim.outcome.winners_beat winner loser wins (loser_here loser loses) in
      let here = bid_here winner first in
      let there = bid_here loser loses.is_position in
      order_within (width_of numbers) case.limits.wide.most values (copy_at inputs winner)
      (copy_at inputs loser) loser winner
      (place_below (winner - 1) (omega (arith, first.some, first.within)))
      (omega (arith, beaten.bids_no_less, here, there))
      (λ before. omega (arith, beaten.bids_more_behind before, here, there))

  forms_fit : AreForms inputs numbers
      (λ form. IsOfWidth (width_of numbers) (form_value form values))
  forms_fit = record {
    of_bids = λ place h. wire_within (width_of numbers) case.limits.wide.most values
        (inputs + place) (place_below place h);
    of_wins = λ winner loser wins loses. wins_fit winner loser wins
        (loser_is inputs numbers case loser loses);
    of_prices = λ loser loses.
        limit_within (width_of numbers) case.limits.wide.most values (price_of numbers)
        (copy_at inputs loser) case.limits.within_width
        (within_price loser (loser_is inputs numbers case loser loses));
  }

  -- a listed loser's copy, where the selection reads it
  pub copy_read : (place : ℕ) → place < length (losers_of inputs numbers)
      → value_at (price_selection inputs numbers) values place
      ≡ copied inputs values (slice_index (losers_of inputs numbers) place)
  copy_read place h =
      ap (slice_index values) (get_or-map (copy_at inputs) (losers_of inputs numbers) place 0 0 h)

  pub listed_low : (place : ℕ) → place < length (price_selection inputs numbers).wires
      → value_at (price_selection inputs numbers) values place ≤ price_of numbers
  listed_low place h =
      let outside = losers_of inputs numbers in
      let inside : place < length outside = omega (arith, length-map outside (copy_at inputs)) in
      omega (
        arith,
        copy_read place inside,
        within_price (slice_index outside place)
            (losers_lose inputs (winners_of numbers) place 0 inside),
      )

  -- a loser who holds the price may be selected
  pub may_be_selected : length (losers_of inputs numbers) ≢ 0 → (place : ℕ)
      × IsSelected (price_selection inputs numbers) values place
  may_be_selected some =
      let outside = losers_of inputs numbers in
      let winners = winners_of numbers in
      let price = price_of numbers in
      let first = losers_lose inputs winners 0 0 (omega (arith, some)) in
      let held =
      claim.outcome.price_is_bid (slice_index outside 0) (loser_here (slice_index outside 0) first)
      in
      let holder = subst (λ n. IsLoser n winners held.holder) claim.one_each held.is_loser in
      let at = found outside held.holder (loser_listed inputs winners held.holder holder) in
      let long = length-map outside (copy_at inputs) in
      let holds : copied inputs values (slice_index outside at.0) ≡ price =
      ap (copied inputs values) at.2 ∙ bid_here held.holder holder.is_position ∙ held.bids_price in (
        at.0,
        holder_selected (price_selection inputs numbers) values case.limits.wide.most
            case.limits.within_width listed_low at.0 (omega (arith, at.1))
            (copy_read at.0 at.1 ∙ holds),
      )

module _ (inputs : ℕ) (numbers bids : List ℕ) (case : IsUniformCase inputs numbers) (claim : IsUniformClaim inputs numbers bids) where
  pub uniform_filled : MayBeFilled bids (uniform_ranges inputs numbers)
  uniform_filled = record {
    ranged =
        subst (λ n. IsRanged n (uniform_ranges inputs numbers)) (sym claim.one_each)
        (uniform_ranged inputs numbers case);
    of_width = All-forms inputs numbers
        (λ form. IsOfWidth (width_of numbers) (form_value form (bids ++ bids)))
        (forms_fit inputs numbers bids (bids ++ bids) case claim (begins_alone bids));
  }

  pub begins_ranged : BeginsWith bids (ranged_values bids (uniform_ranges inputs numbers))
  begins_ranged =
      begins_longer bids (bids ++ bids)
      (ranges_values (uniform_ranges inputs numbers) (bids ++ bids))
      (begins_alone bids)

  pub ranged_holds : Holds (ranged_plan inputs (uniform_ranges inputs numbers))
      (ranged_values bids (uniform_ranges inputs numbers))
  ranged_holds =
      ranged_of_width bids (uniform_ranges inputs numbers) inputs (width_of numbers) claim.one_each
      case.limits.wide.most claim.within_width uniform_filled

  pub uniform_complete : Holds (uniform_plan inputs numbers) (uniform_values inputs numbers bids)
  uniform_complete =
      let ranges = uniform_ranges inputs numbers in
      let relation = price_selection inputs numbers in
      let plan = ranged_plan inputs ranges in
      let before = ranged_values bids ranges in
      elim (eqb_tells (length (losers_of inputs numbers)) 0) [
        | inl none ↦ rw (plan_alone inputs numbers none.1, values_alone inputs numbers bids none.1)
            ranged_holds
        | inr some ↦
            (let chosen = may_be_selected inputs numbers bids before case claim begins_ranged some.1
            in
            let fits =
            selection_fits inputs numbers case (length plan.kinds)
            (omega (arith, ranged_wires inputs ranges)) some.1 in
            rw (plan_many inputs numbers some.1, values_many inputs numbers bids some.1)
            (selected_complete relation plan before chosen.0
            (ranged_is_plan inputs ranges
            (uniform_ranged inputs numbers case)).names fits ranged_holds chosen.1))
      ]

  -- the values begin with the bids
  pub uniform_begins : take inputs (uniform_values inputs numbers bids) ≡ bids
  uniform_begins =
      let ranges = uniform_ranges inputs numbers in
      let before = ranged_values bids ranges in
      let first : take inputs before ≡ bids =
      ap (λ n. take n before) (sym claim.one_each) ∙ ranged_begins bids ranges in
      elim (eqb_tells (length (losers_of inputs numbers)) 0) [
        | inl none ↦ ap (take inputs) (values_alone inputs numbers bids none.1) ∙ first
        | inr some ↦
            ap (take inputs) (values_many inputs numbers bids some.1)
            ∙ take-append-le inputs before (selected_values (price_selection inputs numbers) before)
            (omega (arith, begins_ranged.enough, claim.one_each)) ∙ first
      ]

-- how many inputs, wires and rows the plan has
sets_count : (n p m t : ℕ) → (n + p + m) * t + m * t ≡ t * (n + p + 2 * m)
sets_count n p m t = omega arith

module _ (inputs : ℕ) (numbers : List ℕ) where
  pub uniform_inputs : (uniform_plan inputs numbers).inputs ≡ inputs
  uniform_inputs = elim (eqb_tells (length (losers_of inputs numbers)) 0) [
    | inl none ↦ ap (λ (p : PlanValue). p.inputs) (plan_alone inputs numbers none.1)
    | inr some ↦ ap (λ (p : PlanValue). p.inputs) (plan_many inputs numbers some.1)
  ]

  pub uniform_wires : length (uniform_plan inputs numbers).kinds ≡ wire_count inputs numbers
  uniform_wires =
      let plan = ranged_plan inputs (uniform_ranges inputs numbers) in
      let relation = price_selection inputs numbers in
      let width = width_of numbers in
      let losing = length (losers_of inputs numbers) in
      let pairs = length (winners_of numbers) * losing in
      let forms = ap (λ count. count * width) (length_forms inputs numbers) in
      let sets = sets_count inputs pairs losing width in
      let wires = ranged_wires inputs (uniform_ranges inputs numbers) in
      elim (eqb_tells losing 0) [
        | inl none ↦
            (let nothing = ap (λ count. count * width) none.1 in
            ap (λ (p : PlanValue). length p.kinds) (plan_alone inputs numbers none.1)
            ∙ omega (arith, wires, forms, sets, nothing, none.1))
        | inr some ↦
            (let long = length-map (losers_of inputs numbers) (copy_at inputs) in
            let selection = length_selected relation in
            let each = ap (λ count. count * width) long in
            ap (λ (p : PlanValue). length p.kinds) (plan_many inputs numbers some.1)
            ∙ length-append plan.kinds (selected_wires relation)
            ∙ omega (arith, wires, forms, sets, selection, long, each))
      ]

  pub uniform_rows : length (uniform_plan inputs numbers).rows ≡ row_count inputs numbers
  uniform_rows =
      let plan = ranged_plan inputs (uniform_ranges inputs numbers) in
      let relation = price_selection inputs numbers in
      let start = length plan.kinds in
      let losing = length (losers_of inputs numbers) in
      let rows = ranged_rows inputs (uniform_ranges inputs numbers) in
      let forms = length_forms inputs numbers in
      let one : Bool → ℕ = λ b. if b then 0 else 1 in
      elim (eqb_tells losing 0) [
        | inl none ↦
            (let last = ap one none.0 in
            ap (λ (p : PlanValue). length p.rows) (plan_alone inputs numbers none.1)
            ∙ omega (arith, rows, forms, none.1, last))
        | inr some ↦
            (let last = ap one some.0 in
            let long = length-map (losers_of inputs numbers) (copy_at inputs) in
            let selection = length_listed (place_row relation start) (length relation.wires) in
            ap (λ (p : PlanValue). length p.rows) (plan_many inputs numbers some.1)
            ∙ length-append plan.rows (selected_rows relation start)
            ∙ omega (arith, rows, forms, selection, long, last))
      ]
