-- The ranges of the plan before the selection: of the bids, of the wins and of the prices, as one
-- list of forms.
use Rattle.std.specs.Prelude.{ℕ, ◌+◌, ◌-◌, ◌*◌, ◌^◌, ◌<◌, ◌≤◌, ◌≡◌, List, [], ◌++◌, All, length, nat_lt, slice_index}
use Rattle.std.proofs.Common.{sym, ap, subst, arith, length-append, ◌∙◌}
use Rattle.std.proofs.lemmas.List.{append-nil}
use Rattle.std.proofs.lemmas.List.Elements.{All-append}
use Rattle.vk_residue.specs.Limits.{IsWidth}
use Rattle.vk_residue.specs.Residue.{IsResidue}
use Rattle.vk_plan.specs.declared.form.Form.{Form}
use Rattle.vk_plan.specs.Forms.{form_value, NamesBelow}
use Rattle.vk_plan.specs.Plans.{PlanValue, IsPlan, Holds, extended}
use Rattle.vk_range.specs.Copies.{copies, length_copies, BeginsWith, begins_alone}
use Rattle.vk_range.specs.Others.{other, other_before, other_within, other_not, other_of}
use Rattle.vk_range.specs.Differences.{wire_value, wire_within, limit_within, order_within}
use Rattle.vk_range.specs.Holders.{value_at, holder_selected}
use Rattle.vk_range.specs.Laws.{difference_names, one_name}
use Rattle.vk_range.specs.Sets.{listed, plus, minus, IsOfWidth}
use Rattle.vk_range.specs.SetLaws.{length_listed, at_listed, All-listed}
use Rattle.vk_range.specs.Selected.{IsSelected, selected_wires, selected_rows}
use Rattle.vk_range.specs.Series.{series, series_none, length_series}
use Rattle.vk_range.specs.Ranges.{form_at, AreRanges}
use Rattle.vk_range.specs.Ranged.{IsRanged, MayBeFilled, ranges_of, ranged_plan, ranged_values}
use Rattle.vk_range.specs.RangedLaws.{stage_after, values_after, ranged_is_plan, ranged_sound, All-front, All-back, listed_each}
use Rattle.vk_vickrey.specs.Outcomes.{bid_at, IsPosition}
use Rattle.vk_vickrey.specs.VickreyPlans.{IsVickreyCase, IsVickreyClaim, bid_form, win_form, price_form, price_selection, vickrey_forms, after_bids, after_wins, after_prices}

-- the plans on the way
abbrev pub with_bids : ℕ → ℕ → PlanValue
with_bids seals width = series (copies seals seals) (bid_form seals) width seals

abbrev pub with_wins : ℕ → ℕ → ℕ → PlanValue
with_wins seals width winner =
    series (with_bids seals width) (win_form seals winner) width (seals - 1)

abbrev pub with_prices : ℕ → ℕ → ℕ → ℕ → PlanValue
with_prices seals width winner price =
    series (with_wins seals width winner) (price_form seals winner price) width (seals - 1)

abbrev pub with_selection : ℕ → ℕ → ℕ → ℕ → PlanValue
with_selection seals width winner price =
    let relation = price_selection seals width winner price in
    extended (with_prices seals width winner price) (selected_wires relation)
    (selected_rows relation (length (with_prices seals width winner price).kinds))

pub length_bids : (seals width : ℕ)
    → length (with_bids seals width).kinds ≡ 2 * seals + seals * width
length_bids seals width = length_series (copies seals seals) (bid_form seals) width seals
    ∙ omega (arith, length_copies seals seals)

pub length_wins : (seals width winner : ℕ)
    → length (with_wins seals width winner).kinds ≡ 2 * seals + seals * width + (seals - 1) * width
length_wins seals width winner =
    length_series (with_bids seals width) (win_form seals winner) width (seals - 1)
    ∙ omega (arith, length_bids seals width)

pub length_prices : (seals width winner price : ℕ)
    → length (with_prices seals width winner price).kinds
    ≡ 2 * seals + seals * width + (seals - 1) * width + (seals - 1) * width
length_prices seals width winner price =
    length_series (with_wins seals width winner) (price_form seals winner price) width (seals - 1)
    ∙ omega (arith, length_wins seals width winner)

-- the forms name the copies alone
pub bid_names : (seals j : ℕ) → j < seals → NamesBelow (seals + seals) (bid_form seals j).terms
bid_names seals j h = one_name (seals + seals) (plus (seals + j)) (omega arith)

win_names : (seals winner k : ℕ) → winner < seals → k < seals - 1
    → NamesBelow (seals + seals) (win_form seals winner k).terms
win_names seals winner k w h =
    difference_names (seals + seals) (seals + winner) (seals + other winner k) (nat_lt k winner)
    (omega arith) (omega (arith, other_within seals winner k w h))

price_names : (seals winner price k : ℕ) → winner < seals → k < seals - 1
    → NamesBelow (seals + seals) (price_form seals winner price k).terms
price_names seals winner price k w h =
    one_name (seals + seals) (minus (seals + other winner k))
    (omega (arith, other_within seals winner k w h))

-- the bids, their copies, and the values of all these
abbrev pub values_before : ℕ → ℕ → ℕ → ℕ → List ℕ → List ℕ
values_before seals width winner price bids =
    after_prices seals width winner price
    (after_wins seals width winner (after_bids seals width (bids ++ bids)))

pub length_forms : (seals winner price : ℕ)
    → length (vickrey_forms seals winner price) ≡ seals + (seals - 1) + (seals - 1)
length_forms seals winner price =
    let bids = listed (bid_form seals) seals in
    let wins = listed (win_form seals winner) (seals - 1) in
    let prices = listed (price_form seals winner price) (seals - 1) in
    length-append (bids ++ wins) prices
    ∙ omega (
      arith,
      length-append bids wins,
      length_listed (bid_form seals) seals,
      length_listed (win_form seals winner) (seals - 1),
      length_listed (price_form seals winner price) (seals - 1),
    )

-- what is so of the forms of each kind is so of all
pub All-vickrey_forms : (P : Form → Type 0) (seals winner price : ℕ)
    → ((j : ℕ) → j < seals → P (bid_form seals j))
    → ((k : ℕ) → k < seals - 1 → P (win_form seals winner k))
    → ((k : ℕ) → k < seals - 1 → P (price_form seals winner price k))
    → All P (vickrey_forms seals winner price)
All-vickrey_forms P seals winner price bids wins prices =
    let first = listed (bid_form seals) seals in
    let next = listed (win_form seals winner) (seals - 1) in
    All-append P (first ++ next) (listed (price_form seals winner price) (seals - 1))
    (All-append P first next (All-listed P (bid_form seals) seals bids)
    (All-listed P (win_form seals winner) (seals - 1) wins))
    (All-listed P (price_form seals winner price) (seals - 1) prices)

-- the plan and the values of one stage after another
pub prices_ranged : (seals width winner price : ℕ)
    → with_prices seals width winner price
    ≡ ranged_plan seals (ranges_of (vickrey_forms seals winner price) width)
prices_ranged seals width winner price =
    let plan = copies seals seals in
    let bids = listed (bid_form seals) seals in
    let wins = listed (win_form seals winner) (seals - 1) in
    stage_after plan (with_wins seals width winner) (bids ++ wins) (price_form seals winner price)
    width (seals - 1)
    (stage_after plan (with_bids seals width) bids (win_form seals winner) width (seals - 1)
    (stage_after plan plan [] (bid_form seals) width seals
    (sym (series_none plan (form_at []) width))))

module _ (seals winner : ℕ) (w : winner < seals) where
  -- the forms are over the copies
  pub forms_over : (width price : ℕ) → IsWidth width
      → AreRanges (ranges_of (vickrey_forms seals winner price) width) (seals + seals)
  forms_over width price wide = record {
    names = All-vickrey_forms (λ form. NamesBelow (seals + seals) form.terms) seals winner price
        (bid_names seals) (λ k. win_names seals winner k w)
        (λ k. price_names seals winner price k w);
    wide = wide;
  }

  pub values_ranged : (width price : ℕ) (bids : List ℕ) → length bids ≡ seals
      → values_before seals width winner price bids
      ≡ ranged_values bids (ranges_of (vickrey_forms seals winner price) width)
  values_ranged width price bids same =
      let v0 = bids ++ bids in
      let v1 = after_bids seals width v0 in
      let v2 = after_wins seals width winner v1 in
      let first = listed (bid_form seals) seals in
      let next = listed (win_form seals winner) (seals - 1) in
      let long : seals + seals ≡ length v0 = omega (arith, length-append bids bids) in
      let named : (form : ℕ → Form) (i : ℕ) → NamesBelow (seals + seals) (form i).terms
      → NamesBelow (length v0) (form i).terms =
      λ form i names. subst (λ n. NamesBelow n (form i).terms) long names in
      values_after v0 v2 (first ++ next) (price_form seals winner price) width (seals - 1)
      (λ i h. named (price_form seals winner price) i (price_names seals winner price i w h))
      (values_after v0 v1 first (win_form seals winner) width (seals - 1)
      (λ i h. named (win_form seals winner) i (win_names seals winner i w h))
      (values_after v0 v0 [] (bid_form seals) width seals
      (λ i h. named (bid_form seals) i (bid_names seals i h))
      (sym (append-nil v0))))

-- what holds for the plan before the selection, in whole numbers
pub record HoldsBeforeSelection (seals width winner price : ℕ) (values : List ℕ) : Type 0 where
  pub copied : (j : ℕ) → j < seals → slice_index values j ≡ slice_index values (seals + j)
  pub bids : (j : ℕ) → j < seals → slice_index values (seals + j) < 2 ^ width
  pub wins : (k : ℕ) → k < seals - 1 → IsOfWidth width (form_value (win_form seals winner k) values)
  pub prices : (k : ℕ) → k < seals - 1
      → IsOfWidth width (form_value (price_form seals winner price k) values)

-- a copy of the width, in whole numbers
pub copy_small : (seals width : ℕ) (values : List ℕ) → seals + seals ≤ length values
    → All IsResidue values
    → (j : ℕ) → j < seals → IsOfWidth width (form_value (bid_form seals j) values)
    → slice_index values (seals + j) < 2 ^ width
copy_small seals width values enough residues j h = subst (IsOfWidth width)
    (wire_value (seals + j) values (residues (seals + j) 0 (omega arith)))

pub forms_shown : (seals width winner price : ℕ) (values : List ℕ)
    → seals + seals ≤ length values → All IsResidue values
    → ((j : ℕ) → j < seals → slice_index values j ≡ slice_index values (seals + j))
    → All (λ form. IsOfWidth width (form_value form values)) (vickrey_forms seals winner price)
    → HoldsBeforeSelection seals width winner price values
forms_shown seals width winner price values enough residues copied all =
    let Fits : Form → Type 0 = λ form. IsOfWidth width (form_value form values) in
    let bids = listed (bid_form seals) seals in
    let wins = listed (win_form seals winner) (seals - 1) in
    let prices = listed (price_form seals winner price) (seals - 1) in
    let first = All-front Fits (bids ++ wins) prices all in
    record {
      copied = copied;
      bids = λ j h. copy_small seals width values enough residues j h
          (listed_each Fits (bid_form seals) seals (All-front Fits bids wins first) j h);
      wins = listed_each Fits (win_form seals winner) (seals - 1) (All-back Fits bids wins first);
      prices = listed_each Fits (price_form seals winner price) (seals - 1)
          (All-back Fits (bids ++ wins) prices all);
    }

-- a place below the number of seals is a position, one higher
pub position_of : (bids : List ℕ) (place : ℕ) → place < length bids → IsPosition bids (place + 1)
position_of bids place h = record { some = omega arith; within = omega arith }

pub bid_at_place : (bids : List ℕ) (place : ℕ) → bid_at bids (place + 1) ≡ slice_index bids place
bid_at_place bids place = let back : place + 1 - 1 ≡ place = omega arith in
    ap (slice_index bids) back

module _ (seals width position price : ℕ) (bids values : List ℕ) (case : IsVickreyCase seals width position price)
    (claim : IsVickreyClaim seals width position price bids) (begins : BeginsWith bids values) where
  bid_small : (j : ℕ) → j < seals → slice_index bids j < 2 ^ width
  bid_small j h = claim.within_width j 0 (omega (arith, claim.one_each))

  pub bid_of : (j : ℕ) → j < seals → slice_index values (seals + j) ≡ slice_index bids j
  bid_of j h = subst (λ n. slice_index values (n + j) ≡ slice_index bids j) claim.one_each
      (begins.copied j (omega (arith, claim.one_each)))

  pub bids_fit : (j : ℕ) → j < seals → IsOfWidth width (form_value (bid_form seals j) values)
  bids_fit j h =
      wire_within width case.wide.most values (seals + j)
      (subst (λ b. b < 2 ^ width) (sym (bid_of j h)) (bid_small j h))

  pub wins_fit : (k : ℕ) → k < seals - 1
      → IsOfWidth width (form_value (win_form seals (position - 1) k) values)
  wins_fit k h =
      let winner = position - 1 in
      let w : winner < seals = omega (arith, case.some_position, case.within_seals) in
      let place = other winner k in
      let inside = other_within seals winner k w h in
      let winning = slice_index values (seals + winner) in
      let losing = slice_index values (seals + place) in
      let top = subst (λ b. b < 2 ^ width) (sym (bid_of winner w)) (bid_small winner w) in
      let at = position_of bids place (omega (arith, claim.one_each)) in
      let above : losing ≤ winning =
      omega (
        arith,
        claim.outcome.none_bids_more (place + 1) at,
        bid_at_place bids place,
        bid_of place inside,
        bid_of winner w,
      ) in
      order_within width case.wide.most values (seals + winner) (seals + place) k winner top above
      (λ before. omega (
        arith,
        claim.outcome.first_of_the_greatest (place + 1) at
            (omega (arith, other_before winner k before)),
        bid_at_place bids place,
        bid_of place inside,
        bid_of winner w,
      ))

  pub within_price : (k : ℕ) → k < seals - 1
      → slice_index values (seals + other (position - 1) k) ≤ price
  within_price k h =
      let winner = position - 1 in
      let w : winner < seals = omega (arith, case.some_position, case.within_seals) in
      let place = other winner k in
      let inside = other_within seals winner k w h in
      let at = position_of bids place (omega (arith, claim.one_each)) in
      omega (
        arith,
        claim.outcome.others_within_price (omega (arith, claim.one_each)) (place + 1) at
            (λ e. other_not winner k (omega arith)),
        bid_at_place bids place,
        bid_of place inside,
      )

  pub prices_fit : (k : ℕ) → k < seals - 1
      → IsOfWidth width (form_value (price_form seals (position - 1) price k) values)
  prices_fit k h =
      limit_within width case.wide.most values price (seals + other (position - 1) k)
      case.within_width (within_price k h)

  -- the selection reads copies of the others' bids
  pub listed_low : (k : ℕ) → k < length (price_selection seals width (position - 1) price).wires
      → value_at (price_selection seals width (position - 1) price) values k ≤ price
  listed_low k h =
      let f : ℕ → ℕ = λ k. seals + other (position - 1) k in
      let inside : k < seals - 1 = omega (arith, length_listed f (seals - 1)) in
      subst (λ wire. slice_index values wire ≤ price) (sym (at_listed f (seals - 1) k 0 inside))
      (within_price k inside)

  -- a place of another that holds the price may be selected
  pub may_be_selected : 2 ≤ seals
      → (p : ℕ) × IsSelected (price_selection seals width (position - 1) price) values p
  may_be_selected many =
      let winner = position - 1 in
      let w : winner < seals = omega (arith, case.some_position, case.within_seals) in
      let relation = price_selection seals width winner price in
      let f : ℕ → ℕ = λ k. seals + other winner k in
      let long = length_listed f (seals - 1) in
      let held = claim.outcome.price_is_bid (omega (arith, claim.one_each)) in
      let inside : held.holder - 1 < seals =
      omega (arith, held.is_position.some, held.is_position.within, claim.one_each) in
      let found = other_of seals winner (held.holder - 1) inside w
      (λ e. held.is_other (omega (arith, held.is_position.some, case.some_position))) in
      let holds : slice_index values (f found.0) ≡ price =
      ap (λ p. slice_index values (seals + p)) found.2 ∙ bid_of (held.holder - 1) inside
      ∙ held.bids_price in (
        found.0,
        holder_selected relation values case.wide.most case.within_width listed_low found.0
            (omega (arith, found.1, long))
            (ap (slice_index values) (at_listed f (seals - 1) found.0 0 found.1) ∙ holds),
      )

module _ (seals width position price : ℕ) (case : IsVickreyCase seals width position price) where
  pub vickrey_ranged : IsRanged seals (ranges_of (vickrey_forms seals (position - 1) price) width)
  vickrey_ranged = record {
    some = case.some_seals;
    most = omega (arith, case.most_seals);
    fits = forms_over seals (position - 1) (omega (arith, case.some_position, case.within_seals))
        width price case.wide;
    few = omega (arith, case.most_seals, length_forms seals (position - 1) price);
  }

  pub forms_fit : (bids : List ℕ) → IsVickreyClaim seals width position price bids
      → MayBeFilled bids (ranges_of (vickrey_forms seals (position - 1) price) width)
  forms_fit bids claim =
      let begins = begins_alone bids in
      let relation = ranges_of (vickrey_forms seals (position - 1) price) width in
      record {
        ranged = subst (λ n. IsRanged n relation) (sym claim.one_each) vickrey_ranged;
        of_width = All-vickrey_forms (λ form. IsOfWidth width (form_value form (bids ++ bids)))
            seals (position - 1) price
            (bids_fit seals width position price bids (bids ++ bids) case claim begins)
            (wins_fit seals width position price bids (bids ++ bids) case claim begins)
            (prices_fit seals width position price bids (bids ++ bids) case claim begins);
      }

  pub prices_plan : IsPlan (with_prices seals width (position - 1) price)
  prices_plan =
      subst IsPlan (sym (prices_ranged seals width (position - 1) price))
      (ranged_is_plan seals (ranges_of (vickrey_forms seals (position - 1) price) width)
      vickrey_ranged)

  -- what holds for the plan before the selection, in whole numbers
  pub prices_shown : (values : List ℕ) → Holds (with_prices seals width (position - 1) price) values
      → (seals + seals ≤ length values)
      × HoldsBeforeSelection seals width (position - 1) price values
  prices_shown values holds =
      let winner = position - 1 in
      let ranged = ranged_sound seals (ranges_of (vickrey_forms seals winner price) width)
      vickrey_ranged values
      (subst (λ p. Holds p values) (prices_ranged seals width winner price) holds) in (
        ranged.enough,
        forms_shown seals width winner price values ranged.enough ranged.residues ranged.copied
            ranged.of_width,
      )
