-- The plan of a second-price auction shows its outcome, and every outcome can be shown.
use Rattle.std.specs.Prelude.{ℕ, ◌+◌, ◌-◌, ◌*◌, ◌^◌, ◌<◌, ◌≤◌, ◌≡◌, ◌≢◌, ◌==◌, Bool, true, false, if◌then◌else◌, List, [], ◌++◌, All, length, take, slice_index}
use Rattle.std.proofs.Common.{refl, sym, ap, ◌∙◌, subst, arith, inl, inr, get_or-take}
use Rattle.std.proofs.lemmas.List.{append-nil, get_or_default, length-take-le, take-take}
use Rattle.std.proofs.lemmas.Bool.{cases_eq}
use Rattle.std.proofs.lemmas.Bool.Decides.{eqb_tells}
use Rattle.vk_residue.specs.Limits.{IsWidth}
use Rattle.vk_plan.specs.declared.form.Form.{Form}
use Rattle.vk_plan.specs.Plans.{Holds}
use Rattle.vk_plan.specs.PlanLaws.{Holds-before}
use Rattle.vk_range.specs.Others.{other, other_within, other_not, other_of, other_index}
use Rattle.vk_range.specs.Copies.{copies, copies_rows, length_copies, BeginsWith, begins_alone, begins_longer}
use Rattle.vk_range.specs.Differences.{order_shown, limit_shown}
use Rattle.vk_range.specs.Holders.{value_at, selected_holds}
use Rattle.vk_range.specs.SetLaws.{length_listed, at_listed, All-listed}
use Rattle.vk_range.specs.Series.{same_plan, series_rows, series_values}
use Rattle.vk_range.specs.Ranged.{ranges_of, ranged_plan}
use Rattle.vk_range.specs.RangedLaws.{ranged_of_width}
use Rattle.vk_range.specs.Selected.{IsSelection, IsSelected, selected_wires, selected_rows, selected_values}
use Rattle.vk_range.specs.SelectedLaws.{selected_sound, selected_complete}
use Rattle.vk_vickrey.specs.Outcomes.{bid_at, IsPosition}
use Rattle.vk_vickrey.specs.Sales.{IsFirstOfGreatest}
use Rattle.vk_vickrey.specs.VickreyRanges.{with_bids, with_wins, with_prices, with_selection, length_bids, length_wins, length_prices, values_before, prices_ranged, values_ranged, prices_plan, prices_shown, forms_fit, HoldsBeforeSelection, may_be_selected}
use Rattle.vk_vickrey.specs.VickreyPlans.{IsVickreyCase, IsVickreyClaim, bid_form, win_form, price_form, price_selection, vickrey_forms, vickrey_plan, after_bids, after_wins, after_prices, after_selection, honest_values}

-- the selection is of copies
pub selection : (seals width winner price wires : ℕ) → 2 ≤ seals → seals ≤ 64 → winner < seals
    → IsWidth width → seals + seals ≤ wires
    → IsSelection (price_selection seals width winner price) wires
selection seals width winner price wires many few w wide enough =
    let long = length_listed (λ k. seals + other winner k) (seals - 1) in
    record {
      names = All-listed (λ wire. wire < wires) (λ k. seals + other winner k) (seals - 1)
          (λ k h. omega (arith, other_within seals winner k w h));
      one = omega arith;
      most = omega arith;
      wide = wide;
    }

-- the rows before the selection, each part beginning at its own wire
abbrev rows_from : ℕ → ℕ → ℕ → ℕ → ℕ → ℕ → ℕ → List Form
rows_from seals width winner price bids wins prices =
    copies_rows seals seals ++ series_rows (bid_form seals) bids width seals
    ++ series_rows (win_form seals winner) wins width (seals - 1)
    ++ series_rows (price_form seals winner price) prices width (seals - 1)

rows_are : (seals width winner price : ℕ)
    → rows_from seals width winner price (2 * seals) (2 * seals + seals * width)
    (2 * seals + seals * width + (seals - 1) * width)
    ≡ rows_from seals width winner price (length (copies seals seals).kinds)
    (length (with_bids seals width).kinds) (length (with_wins seals width winner).kinds)
rows_are seals width winner price =
    let bids : 2 * seals ≡ length (copies seals seals).kinds =
    omega (arith, length_copies seals seals) in
    ap (λ n. rows_from seals width winner price n (2 * seals + seals * width)
    (2 * seals + seals * width + (seals - 1) * width)) bids
    ∙ ap (λ n. rows_from seals width winner price (length (copies seals seals).kinds) n
    (2 * seals + seals * width + (seals - 1) * width)) (sym (length_bids seals width))
    ∙ ap (λ n. rows_from seals width winner price (length (copies seals seals).kinds)
    (length (with_bids seals width).kinds) n) (sym (length_wins seals width winner))

-- the rows before the selection, as the listed plan has them
abbrev listed_rows : ℕ → ℕ → ℕ → ℕ → List Form
listed_rows seals width winner price =
    rows_from seals width winner price (2 * seals) (2 * seals + seals * width)
    (2 * seals + seals * width + (seals - 1) * width)

-- the listed plan, where there is one seal or where there are more
listed_by : (seals width position price : ℕ) (one : Bool) → (seals == 1) ≡ one
    → vickrey_plan seals width position price ≡ record {
      inputs = seals;
      kinds = (with_prices seals width (position - 1) price).kinds
          ++ (if one then [] else selected_wires (price_selection seals width (position - 1) price));
      rows = (with_prices seals width (position - 1) price).rows
          ++ (if one then [] else selected_rows (price_selection seals width (position - 1) price)
          (2 * seals + seals * width + (seals - 1) * width + (seals - 1) * width));
    }
unfolding vickrey_plan
listed_by seals width position price one is =
    let winner = position - 1 in
    let plan = with_prices seals width winner price in
    let relation = price_selection seals width winner price in
    let more : Bool → List Form =
    λ b. if b then [] else selected_rows relation
    (2 * seals + seals * width + (seals - 1) * width + (seals - 1) * width) in
    same_plan seals (plan.kinds ++ (if seals == 1 then [] else selected_wires relation))
    (plan.kinds ++ (if one then [] else selected_wires relation))
    (listed_rows seals width winner price ++ more (seals == 1)) (plan.rows ++ more one)
    (ap (λ b. plan.kinds ++ (if b then [] else selected_wires relation)) is)
    (ap (λ b. listed_rows seals width winner price ++ more b) is
    ∙ ap (λ rows. rows ++ more one) (rows_are seals width winner price))

-- the listed plan is that of the relations one after another
pub plan_alone : (seals width position price : ℕ) → (seals == 1) ≡ true
    → vickrey_plan seals width position price ≡ with_prices seals width (position - 1) price
plan_alone seals width position price one =
    let plan = with_prices seals width (position - 1) price in
    listed_by seals width position price true one
    ∙ same_plan seals (plan.kinds ++ []) plan.kinds (plan.rows ++ []) plan.rows
    (append-nil plan.kinds) (append-nil plan.rows)

pub plan_many : (seals width position price : ℕ) → (seals == 1) ≡ false
    → vickrey_plan seals width position price ≡ with_selection seals width (position - 1) price
plan_many seals width position price many =
    let plan = with_prices seals width (position - 1) price in
    let relation = price_selection seals width (position - 1) price in
    let start = 2 * seals + seals * width + (seals - 1) * width + (seals - 1) * width in
    listed_by seals width position price false many
    ∙ same_plan seals (plan.kinds ++ selected_wires relation)
    (plan.kinds ++ selected_wires relation) (plan.rows ++ selected_rows relation start)
    (plan.rows ++ selected_rows relation (length plan.kinds))
    refl (ap (λ start. plan.rows ++ selected_rows relation start)
    (sym (length_prices seals width (position - 1) price)))

-- so no other's bid is above the winner's or the price, nor as high as the winner's where it stands
-- before
not_above : (seals width winner price k : ℕ) (values : List ℕ) → width ≤ 40 → winner < seals
    → k < seals - 1 → HoldsBeforeSelection seals width winner price values
    → (slice_index values (seals + other winner k) ≤ slice_index values (seals + winner))
    × (k < winner → slice_index values (seals + other winner k)
    < slice_index values (seals + winner))
not_above seals width winner price k values most w h shown =
    order_shown width most values (seals + winner) (seals + other winner k) k winner
    (shown.bids winner w) (shown.bids (other winner k) (other_within seals winner k w h))
    (shown.wins k h)

not_above_price : (seals width winner price k : ℕ) (values : List ℕ) → width ≤ 40 → winner < seals
    → k < seals - 1 → price < 2 ^ width → HoldsBeforeSelection seals width winner price values
    → slice_index values (seals + other winner k) ≤ price
not_above_price seals width winner price k values most w h below shown =
    limit_shown width most values price (seals + other winner k) below
    (shown.bids (other winner k) (other_within seals winner k w h)) (shown.prices k h)

-- a place of another holds the price
record IsHeld (seals winner price : ℕ) (values : List ℕ) : Type 0 where
  place : ℕ
  inside : place < seals - 1
  holds : slice_index values (seals + other winner place) ≡ price

-- the bids that are shown: the winner is the first of the greatest, and no other's is above the
-- price
pub record IsWinShown (seals width position price : ℕ) (bids : List ℕ) : Type 0 where
  pub one_each : length bids ≡ seals
  pub within_width : All (λ bid. bid < 2 ^ width) bids
  pub wins : IsFirstOfGreatest bids position
  pub others_within_price : (other : ℕ) → IsPosition bids other → other ≢ position
      → bid_at bids other ≤ price

-- the bids behind the copies
pub bid_shown : (seals width winner price : ℕ) (values : List ℕ)
    → HoldsBeforeSelection seals width winner price values
    → (j : ℕ) → j < seals → slice_index (take seals values) j ≡ slice_index values (seals + j)
bid_shown seals width winner price values shown j h = get_or-take seals values j 0 h
    ∙ shown.copied j h

pub win_shown : (seals width position price : ℕ) (values : List ℕ) → 1 ≤ position → position ≤ seals
    → width ≤ 40 → price < 2 ^ width
    → seals ≤ length values → HoldsBeforeSelection seals width (position - 1) price values
    → IsWinShown seals width position price (take seals values)
win_shown seals width position price values some_position within_seals most below enough shown =
    let winner = position - 1 in
    let w : winner < seals = omega (arith, some_position, within_seals) in
    let bids = take seals values in
    let long = length-take-le seals values enough in
    let bid = bid_shown seals width winner price values shown in
    let winning = bid winner w in
    let one_other : (place : ℕ) → place < seals → place ≢ winner
    → (slice_index bids place ≤ slice_index bids winner)
    × (place < winner → slice_index bids place < slice_index bids winner)
    × (slice_index bids place ≤ price) =
    λ place h ne.
    let k = other_of seals winner place h w ne in
    let above = not_above seals width winner price k.0 values most w k.1 shown in
    let within = not_above_price seals width winner price k.0 values most w k.1 below shown in
    let here : slice_index bids place ≡ slice_index values (seals + other winner k.0) =
    bid place h ∙ ap (λ p. slice_index values (seals + p)) (sym k.2) in (
      omega (arith, above.0),
      (λ before.
          omega (arith, above.1 (other_index winner k.0 place k.2 before))),
      omega arith,
    ) in
    record {
      one_each = long;
      within_width = λ j d h.
          let inside : j < seals = omega arith in
          let small = shown.bids j inside in
          rw (get_or_default bids j d 0 h, bid j inside) small;
      wins = record {
        is_position = record { some = some_position; within = omega (arith, within_seals) };
        none_bids_more = λ j at. elim (cases_eq (j - 1) winner) [
          | inl e ↦ omega (arith, ap (slice_index bids) e)
          | inr ne ↦ (one_other (j - 1) (omega (arith, at.some, at.within)) ne).0
        ];
        first_of_the_greatest = λ j at before.
            (one_other (j - 1) (omega (arith, at.some, at.within)) (λ e. omega (arith, at.some))).1
            (omega (arith, at.some));
      };
      others_within_price = λ j at ne.
          (one_other (j - 1) (omega (arith, at.some, at.within))
          (λ e. ne (omega (arith, at.some, some_position)))).2;
    }

claim_shown : (seals width position price : ℕ) (values : List ℕ)
    → IsVickreyCase seals width position price → seals ≤ length values
    → HoldsBeforeSelection seals width (position - 1) price values
    → (2 ≤ seals → IsHeld seals (position - 1) price values)
    → IsVickreyClaim seals width position price (take seals values)
claim_shown seals width position price values case enough shown held =
    let winner = position - 1 in
    let w : winner < seals = omega (arith, case.some_position, case.within_seals) in
    let bids = take seals values in
    let win = win_shown seals width position price values case.some_position case.within_seals
    case.wide.most case.within_width enough shown in
    let long = win.one_each in
    record {
      one_each = long;
      within_width = win.within_width;
      outcome = record {
        is_position = win.wins.is_position;
        none_bids_more = win.wins.none_bids_more;
        first_of_the_greatest = win.wins.first_of_the_greatest;
        alone_pays_0 = λ one. case.alone (sym long ∙ one);
        others_within_price = λ many. win.others_within_price;
        price_is_bid = λ many.
            let found = held (omega arith) in
            let place = other winner found.place in
            let back : place + 1 - 1 ≡ place = omega arith in
            let inside = other_within seals winner found.place w found.inside in
            record {
              holder = place + 1;
              is_position = record { some = omega arith; within = omega arith };
              is_other = λ e. other_not winner found.place (omega arith);
              bids_price = ap (slice_index bids) back
                  ∙ (bid_shown seals width winner price values shown place inside ∙ found.holds);
            };
      };
    }

-- the place that is selected holds the price
selection_held : (seals width winner price : ℕ) (values : List ℕ) (place : ℕ) → width ≤ 40
    → winner < seals → price < 2 ^ width
    → HoldsBeforeSelection seals width winner price values
    → IsSelected (price_selection seals width winner price) values place
    → IsHeld seals winner price values
selection_held seals width winner price values place most w below shown selected =
    let f : ℕ → ℕ = λ k. seals + other winner k in
    let inside : place < seals - 1 = omega (arith, selected.is_place, length_listed f (seals - 1))
    in
    let relation = price_selection seals width winner price in
    let wire : (k : ℕ) → k < seals - 1 → f k ≡ slice_index relation.wires k =
    λ k h. sym (at_listed f (seals - 1) k 0 h) in
    let low : (k : ℕ) → k < length relation.wires → value_at relation values k ≤ price =
    λ k h.
    let within : k < seals - 1 = omega (arith, length_listed f (seals - 1)) in
    subst (λ at. slice_index values at ≤ price) (wire k within)
    (not_above_price seals width winner price k values most w within below shown) in
    record {
      place = place;
      inside = inside;
      holds = ap (slice_index values) (wire place inside)
          ∙ selected_holds relation values most below low place selected;
    }

pub vickrey_sound : (seals width position price : ℕ) (values : List ℕ)
    → IsVickreyCase seals width position price
    → Holds (vickrey_plan seals width position price) values
    → IsVickreyClaim seals width position price (take seals values)
vickrey_sound seals width position price values case holds =
    let winner = position - 1 in
    let w : winner < seals = omega (arith, case.some_position, case.within_seals) in
    let plan = with_prices seals width winner price in
    let start = length plan.kinds in
    elim (eqb_tells seals 1) [
      | inl one ↦
          (let shown = prices_shown seals width position price case values
          (subst (λ p. Holds p values) (plan_alone seals width position price one.0) holds) in
          claim_shown seals width position price values case (omega (arith, shown.0)) shown.1
          (λ many. absurd (omega (arith, one.1))))
      | inr many ↦
          (let holds' = subst (λ p. Holds p values) (plan_many seals width position price many.0)
          holds in
          let relation = price_selection seals width winner price in
          let own = (prices_plan seals width position price case).names in
          let fits = selection seals width winner price start
          (omega (arith, case.some_seals, many.1)) case.most_seals w case.wide
          (omega (arith, length_prices seals width winner price)) in
          let selected = selected_sound relation plan values own fits holds' in
          let front = take start values in
          let shown = prices_shown seals width position price case front
          (Holds-before plan (selected_wires relation) (selected_rows relation start) values own
          holds') in
          subst (IsVickreyClaim seals width position price)
          (take-take seals start values (omega (arith, length_prices seals width winner price)))
          (claim_shown seals width position price front case (omega (arith, shown.0)) shown.1
          (λ _. selection_held seals width winner price front selected.0 case.wide.most w
          case.within_width shown.1 selected.1)))
    ]

-- the values before the selection begin with the bids and hold for the plan before it
pub begins_prices : (seals width winner price : ℕ) (bids : List ℕ)
    → BeginsWith bids (after_prices seals width winner price
    (after_wins seals width winner (after_bids seals width (bids ++ bids))))
begins_prices seals width winner price bids =
    let v0 = bids ++ bids in
    let v1 = after_bids seals width v0 in
    let v2 = after_wins seals width winner v1 in
    begins_longer bids v2 (series_values v2 (price_form seals winner price) width (seals - 1))
    (begins_longer bids v1 (series_values v1 (win_form seals winner) width (seals - 1))
    (begins_longer bids v0 (series_values v0 (bid_form seals) width seals) (begins_alone bids)))

pub before_selection : (seals width position price : ℕ) (bids : List ℕ)
    → IsVickreyCase seals width position price
    → IsVickreyClaim seals width position price bids
    → Holds (with_prices seals width (position - 1) price)
    (values_before seals width (position - 1) price bids)
before_selection seals width position price bids case claim =
    let winner = position - 1 in
    let w : winner < seals = omega (arith, case.some_position, case.within_seals) in
    let relation = ranges_of (vickrey_forms seals winner price) width in
    subst (λ p. Holds p (values_before seals width winner price bids))
    (sym (prices_ranged seals width winner price))
    (subst (Holds (ranged_plan seals relation))
    (sym (values_ranged seals winner w width price bids claim.one_each))
    (ranged_of_width bids relation seals width claim.one_each case.wide.most claim.within_width
    (forms_fit seals width position price case bids claim)))

pub vickrey_complete : (seals width position price : ℕ) (bids : List ℕ)
    → IsVickreyCase seals width position price
    → IsVickreyClaim seals width position price bids
    → Holds (vickrey_plan seals width position price)
    (honest_values seals width position price bids)
unfolding honest_values
vickrey_complete seals width position price bids case claim =
    let winner = position - 1 in
    let w : winner < seals = omega (arith, case.some_position, case.within_seals) in
    let relation = price_selection seals width winner price in
    let v3 = after_prices seals width winner price
    (after_wins seals width winner (after_bids seals width (bids ++ bids))) in
    let h3 = before_selection seals width position price bids case claim in
    elim (eqb_tells seals 1) [
      | inl one ↦
          subst (λ p. Holds p (after_selection seals width winner price v3))
          (sym (plan_alone seals width position price one.0))
          (subst (λ b. Holds (with_prices seals width winner price)
          (if b then v3 else v3 ++ selected_values relation v3)) (sym one.0) h3)
      | inr many ↦
          (let two : 2 ≤ seals = omega (arith, case.some_seals, many.1) in
          let chosen = may_be_selected seals width position price bids v3 case claim
          (begins_prices seals width winner price bids) two in
          let h4 = selected_complete relation (with_prices seals width winner price) v3 chosen.0
          (prices_plan seals width position price case).names
          (selection seals width winner price (length (with_prices seals width winner price).kinds)
          two case.most_seals w case.wide (omega (arith, length_prices seals width winner price)))
          h3 chosen.1 in
          subst (λ p. Holds p (after_selection seals width winner price v3))
          (sym (plan_many seals width position price many.0))
          (subst (λ b. Holds (with_selection seals width winner price)
          (if b then v3 else v3 ++ selected_values relation v3)) (sym many.0) h4))
    ]
