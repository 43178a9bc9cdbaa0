-- The plan of an auction with a reserve shows its sale, and every sale can be shown.
use Rattle.std.specs.Prelude.{ℕ, ◌+◌, ◌-◌, ◌*◌, ◌%◌, ◌^◌, ◌<◌, ◌≤◌, ◌≡◌, ◌≢◌, Bool, if◌then◌else◌, List, [], ◌∷◌, ◌++◌, All, length, take, slice_index}
use Rattle.std.proofs.Common.{true, false, ltb, rules, refl, sym, ap, ◌∙◌, subst, arith, inl, inr, length-append, get_or-take}
use Rattle.std.proofs.lemmas.List.{length-take-le, get_or_default}
use Rattle.std.proofs.lemmas.List.Elements.{All-nil, All-cons, All-append}
use Rattle.std.proofs.lemmas.Bool.{cases_lt, lt-ltb, le-ltb}
use Rattle.vk_residue.specs.Residue.{modulus, negative}
use Rattle.vk_plan.specs.declared.form.Form.{Form}
use Rattle.vk_plan.specs.Forms.{linear_part, form_value, NamesBelow}
use Rattle.vk_plan.specs.Plans.{PlanValue, IsPlan, Holds}
use Rattle.vk_range.specs.Sets.{listed, plus, minus, IsOfWidth}
use Rattle.vk_range.specs.SetLaws.{length_listed, All-listed}
use Rattle.vk_range.specs.Laws.{one_name}
use Rattle.vk_range.specs.Others.{other}
use Rattle.vk_range.specs.Copies.{begins_alone}
use Rattle.vk_range.specs.Ranges.{AreOfWidth}
use Rattle.vk_range.specs.Ranged.{IsRanged, MayBeFilled, AreRanged, ranged_plan, ranged_values}
use Rattle.vk_range.specs.Differences.{width_small, limit_shown, limit_within}
use Rattle.vk_range.specs.RangedLaws.{ranged_is_plan, ranged_sound, ranged_of_width, ranged_begins, ranged_wires, ranged_rows, All-front, All-back, listed_each}
use Rattle.vk_vickrey.specs.declared.reserve.ReservePlan.{ReservePlan}
use Rattle.vk_vickrey.specs.declared.sales.Sale.{Sale}
use Rattle.vk_vickrey.specs.declared.sales.Sale.TheVariants.{Sold, Unsold}
use Rattle.vk_vickrey.specs.Outcomes.{IsVickreyOutcome}
use Rattle.vk_vickrey.specs.OutcomeLaws.{outcome_exists, outcome_of_sold}
use Rattle.vk_vickrey.specs.SaleLaws.{sold_at_price}
use Rattle.vk_vickrey.specs.VickreyPlans.{IsVickreyCase, IsVickreyClaim, bid_form, vickrey_forms, vickrey_plan, honest_values, wire_count, row_count}
use Rattle.vk_vickrey.specs.VickreyLaws.{win_shown, vickrey_sound, vickrey_complete}
use Rattle.vk_vickrey.specs.VickreyRanges.{All-vickrey_forms, forms_over, forms_shown, copy_small, bid_names, length_forms, position_of, bid_at_place, bid_of, bids_fit, wins_fit, within_price}
use Rattle.vk_vickrey.specs.VickreySteps.{vickrey_is_plan, honest_begins, vickrey_wires, vickrey_rows}
use Rattle.vk_vickrey.specs.ReservePlans.{IsReserveCase, IsBoardClaim, IsWithinReserve, below_form, reach_form, sale_forms, sale_ranges, reserve_plan, reserve_values, sale_wire_count, sale_row_count}

-- the plan and the values by their case: within the reserve, and above it
pub plan_within : (seals width reserve : ℕ) (sale : Sale) → IsWithinReserve reserve sale
    → reserve_plan seals width reserve sale
    ≡ ranged_plan seals (sale_ranges seals width reserve sale)
unfolding reserve_plan
plan_within seals width reserve (Sold position price) low =
    ap (λ b. if b then vickrey_plan seals width position price
    else ranged_plan seals (sale_ranges seals width reserve (Sold position price)))
    (le-ltb reserve price low)
plan_within seals width reserve Unsold low = refl

pub plan_above : (seals width reserve position price : ℕ) → reserve < price
    → reserve_plan seals width reserve (Sold position price)
    ≡ vickrey_plan seals width position price
unfolding reserve_plan
plan_above seals width reserve position price above =
    ap (λ b. if b then vickrey_plan seals width position price
    else ranged_plan seals (sale_ranges seals width reserve (Sold position price)))
    (lt-ltb reserve price above)

pub values_within : (seals width reserve : ℕ) (sale : Sale) (bids : List ℕ)
    → IsWithinReserve reserve sale
    → reserve_values seals width reserve sale bids
    ≡ ranged_values bids (sale_ranges seals width reserve sale)
unfolding reserve_values
values_within seals width reserve (Sold position price) bids low =
    ap (λ b. if b then honest_values seals width position price bids
    else ranged_values bids (sale_ranges seals width reserve (Sold position price)))
    (le-ltb reserve price low)
values_within seals width reserve Unsold bids low = refl

pub values_above : (seals width reserve position price : ℕ) (bids : List ℕ) → reserve < price
    → reserve_values seals width reserve (Sold position price) bids
    ≡ honest_values seals width position price bids
unfolding reserve_values
values_above seals width reserve position price bids above =
    ap (λ b. if b then honest_values seals width position price bids
    else ranged_values bids (sale_ranges seals width reserve (Sold position price)))
    (lt-ltb reserve price above)

-- above it, whatever the sale is known by
pub plan_without : (seals width reserve position price n w : ℕ) (sale : Sale) → n ≡ seals
    → w ≡ width → sale ≡ Sold position price → reserve < price
    → vickrey_plan n w position price ≡ reserve_plan seals width reserve sale
plan_without seals width reserve position price n w sale of_seals of_width sold above =
    ap (λ m. vickrey_plan m w position price) of_seals
    ∙ ap (λ m. vickrey_plan seals m position price) of_width
    ∙ sym (plan_above seals width reserve position price above)
    ∙ ap (reserve_plan seals width reserve) (sym sold)

pub values_without : (seals width reserve position price n w : ℕ) (sale : Sale) (bids : List ℕ)
    → n ≡ seals → w ≡ width → sale ≡ Sold position price
    → reserve < price → honest_values n w position price bids
    ≡ reserve_values seals width reserve sale bids
values_without seals width reserve position price n w sale bids of_seals of_width sold above =
    ap (λ m. honest_values m w position price bids) of_seals
    ∙ ap (λ m. honest_values seals m position price bids) of_width
    ∙ sym (values_above seals width reserve position price bids above)
    ∙ ap (λ o. reserve_values seals width reserve o bids) (sym sold)

-- what the forms come to, in whole numbers
reach_value : (seals winner reserve : ℕ) (values : List ℕ)
    → form_value (reach_form seals winner reserve) values
    ≡ (slice_index values (seals + winner) + negative reserve) % modulus
unfolding form_value linear_part
reach_value seals winner reserve values = omega arith

reach_means : (a reserve bound : ℕ) → a < bound → reserve < bound → bound ≤ 1099511627776
    → (a + (modulus - reserve) % modulus) % modulus < bound → reserve ≤ a
reach_means a reserve bound ha hr small h = omega arith

reach_fits : (a reserve bound : ℕ) → a < bound → bound ≤ 1099511627776 → reserve ≤ a
    → (a + (modulus - reserve) % modulus) % modulus < bound
reach_fits a reserve bound ha small h = omega arith

-- the numbers of a sale are those of an auction without a reserve, where a bid alone pays nothing
pub sold_case : (seals width reserve position price : ℕ)
    → IsReserveCase seals width reserve (Sold position price) → (seals ≡ 1 → price ≡ 0)
    → IsVickreyCase seals width position price
sold_case seals width reserve position price case alone = search rules

-- so they are above the reserve
pub case_above : (seals width reserve position price : ℕ)
    → IsReserveCase seals width reserve (Sold position price) → reserve < price
    → IsVickreyCase seals width position price
case_above seals width reserve position price case above =
    sold_case seals width reserve position price case
    (λ one. absurd (omega (arith, case.sale_case.alone one)))

above_many : (seals width reserve position price : ℕ)
    → IsReserveCase seals width reserve (Sold position price) → reserve < price → seals ≢ 1
above_many seals width reserve position price case above one =
    omega (arith, case.sale_case.alone one)

-- and so is what is claimed of the bids
pub claim_above : (seals width reserve position price : ℕ) (bids : List ℕ) → reserve < price
    → IsBoardClaim seals width reserve (Sold position price) bids
    → IsVickreyClaim seals width position price bids
claim_above seals width reserve position price bids above claim =
    let found = outcome_of_sold bids reserve position price claim.is_sale in
    let same : found.0 ≡ price = omega (arith, found.2) in
    record {
      one_each = claim.one_each;
      within_width = claim.within_width;
      outcome = subst (IsVickreyOutcome bids position) same found.1;
    }

claim_sold : (seals width reserve position price : ℕ) (bids : List ℕ) → 2 ≤ seals → reserve < price
    → IsVickreyClaim seals width position price bids
    → IsBoardClaim seals width reserve (Sold position price) bids
claim_sold seals width reserve position price bids many above claim =
    let held = claim.outcome.price_is_bid (omega (arith, claim.one_each)) in
    record {
      one_each = claim.one_each;
      within_width = claim.within_width;
      is_sale = sold_at_price bids reserve position price claim.outcome
          (omega (
            arith,
            held.bids_price,
            claim.outcome.none_bids_more held.holder held.is_position,
          )) (omega arith);
    }

-- how many forms there are within the reserve
length_at : (seals winner reserve : ℕ) → 1 ≤ seals
    → length (vickrey_forms seals winner reserve ++ reach_form seals winner reserve ∷ [])
    ≡ 3 * seals - 1
length_at seals winner reserve some =
    length-append (vickrey_forms seals winner reserve) (reach_form seals winner reserve ∷ [])
    ∙ omega (arith, length_forms seals winner reserve)

length_unsold : (seals reserve : ℕ) → length (sale_forms seals reserve Unsold) ≡ 2 * seals
length_unsold seals reserve =
    length-append (listed (bid_form seals) seals) (listed (below_form seals (reserve - 1)) seals)
    ∙ omega (
      arith,
      length_listed (bid_form seals) seals,
      length_listed (below_form seals (reserve - 1)) seals,
    )

length_sale_forms : (seals reserve : ℕ) (sale : Sale) → 1 ≤ seals
    → length (sale_forms seals reserve sale) ≤ 3 * seals
length_sale_forms seals reserve (Sold position price) some =
    omega (arith, length_at seals (position - 1) reserve some)
length_sale_forms seals reserve Unsold some = omega (arith, length_unsold seals reserve)

-- they are over the copies
sale_names : (seals width reserve : ℕ) (sale : Sale) → IsReserveCase seals width reserve sale
    → All (λ (form : Form). NamesBelow (seals + seals) form.terms) (sale_forms seals reserve sale)
sale_names seals width reserve (Sold position price) case =
    let winner = position - 1 in
    let w : winner < seals = omega
    (arith, case.sale_case.some_position, case.sale_case.within_seals) in
    let Named : Form → Type 0 = λ form. NamesBelow (seals + seals) form.terms in
    All-append Named (vickrey_forms seals winner reserve) (reach_form seals winner reserve ∷ [])
    (forms_over seals winner w width reserve case.wide).names
    (All-cons Named (reach_form seals winner reserve) []
    (one_name (seals + seals) (plus (seals + winner)) (omega arith)) (All-nil Named))
sale_names seals width reserve Unsold case =
    let Named : Form → Type 0 = λ form. NamesBelow (seals + seals) form.terms in
    All-append Named (listed (bid_form seals) seals) (listed (below_form seals (reserve - 1)) seals)
    (All-listed Named (bid_form seals) seals (bid_names seals))
    (All-listed Named (below_form seals (reserve - 1)) seals
    (λ j h. one_name (seals + seals) (minus (seals + j)) (omega arith)))

pub sale_ranged : (seals width reserve : ℕ) (sale : Sale) → IsReserveCase seals width reserve sale
    → IsRanged seals (sale_ranges seals width reserve sale)
sale_ranged seals width reserve sale case = record {
  some = case.some_seals;
  most = omega (arith, case.most_seals);
  fits = record { names = sale_names seals width reserve sale case; wide = case.wide };
  few = omega (arith, length_sale_forms seals reserve sale case.some_seals, case.most_seals);
}

-- what holds for the plan shows the sale, within the reserve
within_sound : (seals width reserve : ℕ) (sale : Sale) (values : List ℕ)
    → IsReserveCase seals width reserve sale → IsWithinReserve reserve sale
    → AreRanged seals (sale_ranges seals width reserve sale) values
    → IsBoardClaim seals width reserve sale (take seals values)
within_sound seals width reserve (Sold position price) values case low ranged =
    let winner = position - 1 in
    let w : winner < seals = omega
    (arith, case.sale_case.some_position, case.sale_case.within_seals) in
    let Fits : Form → Type 0 = λ form. IsOfWidth width (form_value form values) in
    let reach = reach_form seals winner reserve in
    let last = All-back Fits (vickrey_forms seals winner reserve) (reach ∷ []) ranged.of_width 0
    reach (omega arith) in
    let shown = forms_shown seals width winner reserve values ranged.enough ranged.residues
    ranged.copied
    (All-front Fits (vickrey_forms seals winner reserve) (reach ∷ []) ranged.of_width) in
    let win = win_shown seals width position reserve values case.sale_case.some_position
    case.sale_case.within_seals case.wide.most
    case.reserve_within_width (omega (arith, ranged.enough)) shown in
    let bid : slice_index (take seals values) winner ≡ slice_index values (seals + winner) =
    get_or-take seals values winner 0 w ∙ ranged.copied winner w in
    let reached = reach_means (slice_index values (seals + winner)) reserve (2 ^ width)
    (shown.bids winner w) case.reserve_within_width
    (width_small width case.wide.most)
    (subst (IsOfWidth width) (reach_value seals winner reserve values) last) in
    let paid : price ≡ reserve = omega (arith, low, case.sale_case.reserve_within_price) in
    record {
      one_each = win.one_each;
      within_width = win.within_width;
      is_sale = record {
        wins = win.wins;
        meets_reserve = omega (arith, reached, bid);
        reserve_within_price = case.sale_case.reserve_within_price;
        others_within_price = λ other at ne.
            omega (arith, paid, win.others_within_price other at ne);
        price_is_reserve_or_bid = inl paid;
      };
    }
within_sound seals width reserve Unsold values case low ranged =
    let Fits : Form → Type 0 = λ form. IsOfWidth width (form_value form values) in
    let bids = listed (bid_form seals) seals in
    let below = listed (below_form seals (reserve - 1)) seals in
    let long = length-take-le seals values (omega (arith, ranged.enough)) in
    let bid : (j : ℕ) → j < seals
    → slice_index (take seals values) j ≡ slice_index values (seals + j) =
    λ j h. get_or-take seals values j 0 h ∙ ranged.copied j h in
    let copies : (j : ℕ) → j < seals → slice_index values (seals + j) < 2 ^ width =
    λ j h. copy_small seals width values ranged.enough ranged.residues j h
    (listed_each Fits (bid_form seals) seals (All-front Fits bids below ranged.of_width) j h) in
    record {
      one_each = long;
      within_width = λ j d h.
          let inside : j < seals = omega arith in
          rw (get_or_default (take seals values) j d 0 h, bid j inside) (copies j inside);
      is_sale = λ position at.
          let j = position - 1 in
          let inside : j < seals = omega (arith, at.some, at.within) in
          let form = listed_each Fits (below_form seals (reserve - 1)) seals
          (All-back Fits bids below ranged.of_width) j inside in
          let within = limit_shown width case.wide.most values (reserve - 1) (seals + j)
          (omega (arith, case.reserve_within_width)) (copies j inside) form in
          omega (arith, within, bid j inside, case.sale_case);
    }

pub reserve_sound : (seals width reserve : ℕ) (sale : Sale) (values : List ℕ)
    → IsReserveCase seals width reserve sale
    → Holds (reserve_plan seals width reserve sale) values
    → IsBoardClaim seals width reserve sale (take seals values)
reserve_sound seals width reserve (Sold position price) values case holds =
    elim (cases_lt reserve price) [
      | inl above ↦
          (let case' = case_above seals width reserve position price case above in
          let many : 2 ≤ seals =
          omega (
            arith,
            case.some_seals,
            above_many seals width reserve position price case above,
          ) in
          claim_sold seals width reserve position price (take seals values) many above
          (vickrey_sound seals width position price values case'
          (subst (λ p. Holds p values) (plan_above seals width reserve position price above)
          holds)))
      | inr low ↦
          within_sound seals width reserve (Sold position price) values case low
          (ranged_sound seals (sale_ranges seals width reserve (Sold position price))
          (sale_ranged seals width reserve (Sold position price) case) values
          (subst (λ p. Holds p values) (plan_within seals width reserve (Sold position price) low)
          holds))
    ]
reserve_sound seals width reserve Unsold values case holds =
    within_sound seals width reserve Unsold values case tt
    (ranged_sound seals (sale_ranges seals width reserve Unsold)
    (sale_ranged seals width reserve Unsold case) values
    (subst (λ p. Holds p values) (plan_within seals width reserve Unsold tt) holds))

-- bids within the width have an outcome within it
outcome_case : (seals width reserve position price : ℕ) (sale : Sale) (bids : List ℕ)
    → IsReserveCase seals width reserve sale
    → IsBoardClaim seals width reserve sale bids → IsVickreyOutcome bids position price
    → IsVickreyCase seals width position price
outcome_case seals width reserve position price sale bids case claim is = record {
  some_seals = case.some_seals;
  most_seals = case.most_seals;
  wide = case.wide;
  some_position = is.is_position.some;
  within_seals = omega (arith, is.is_position.within, claim.one_each);
  within_width = elim (cases_lt 1 (length bids)) [
    | inl many ↦
        (let held = is.price_is_bid (omega arith) in
        omega (
          arith,
          held.bids_price,
          claim.within_width (held.holder - 1) 0
              (omega (arith, held.is_position.some, held.is_position.within)),
        ))
    | inr one ↦
        (let alone : length bids ≡ 1 = omega (arith, case.some_seals, claim.one_each) in
        omega (arith, is.alone_pays_0 alone, claim.within_width 0 0 (omega arith)))
  ];
  alone = λ one. is.alone_pays_0 (claim.one_each ∙ one);
}

outcome_claim : (seals width reserve position price : ℕ) (sale : Sale) (bids : List ℕ)
    → IsBoardClaim seals width reserve sale bids
    → IsVickreyOutcome bids position price → IsVickreyClaim seals width position price bids
outcome_claim seals width reserve position price sale bids claim is =
    record { one_each = claim.one_each; within_width = claim.within_width; outcome = is }

-- so the forms of the sale are of the width, within the reserve
sale_fits : (seals width reserve : ℕ) (sale : Sale) (bids : List ℕ)
    → IsReserveCase seals width reserve sale → IsWithinReserve reserve sale
    → IsBoardClaim seals width reserve sale bids
    → AreOfWidth (sale_ranges seals width reserve sale) (bids ++ bids)
sale_fits seals width reserve (Sold position price) bids case low claim =
    let winner = position - 1 in
    let w : winner < seals = omega
    (arith, case.sale_case.some_position, case.sale_case.within_seals) in
    let values = bids ++ bids in
    let Fits : Form → Type 0 = λ form. IsOfWidth width (form_value form values) in
    let found = outcome_of_sold bids reserve position price claim.is_sale in
    let case' = outcome_case seals width reserve position found.0 (Sold position price) bids case
    claim found.1 in
    let claim' = outcome_claim seals width reserve position found.0 (Sold position price) bids claim
    found.1 in
    let begins = begins_alone bids in
    let small = width_small width case.wide.most in
    let reach = reach_form seals winner reserve in
    let bid = bid_of seals width position found.0 bids values case' claim' begins winner w in
    let top = claim.within_width winner 0 (omega (arith, claim.one_each)) in
    let reached = reach_fits (slice_index values (seals + winner)) reserve (2 ^ width)
    (omega (arith, bid, top)) small
    (omega (arith, bid, claim.is_sale.meets_reserve)) in
    All-append Fits (vickrey_forms seals winner reserve) (reach ∷ [])
    (All-vickrey_forms Fits seals winner reserve
    (bids_fit seals width position found.0 bids values case' claim' begins)
    (wins_fit seals width position found.0 bids values case' claim' begins)
    (λ k h. limit_within width case.wide.most values reserve (seals + other winner k)
    case.reserve_within_width
    (omega (
      arith,
      found.2,
      low,
      within_price seals width position found.0 bids values case' claim' begins k h,
    ))))
    (All-cons Fits reach [] (subst (IsOfWidth width) (sym (reach_value seals winner reserve values))
    reached) (All-nil Fits))
sale_fits seals width reserve Unsold bids case low claim =
    let values = bids ++ bids in
    let Fits : Form → Type 0 = λ form. IsOfWidth width (form_value form values) in
    let found = outcome_exists bids (omega (arith, case.some_seals, claim.one_each)) in
    let case' = outcome_case seals width reserve found.0 found.1 Unsold bids case claim found.2 in
    let claim' = outcome_claim seals width reserve found.0 found.1 Unsold bids claim found.2 in
    let begins = begins_alone bids in
    All-append Fits (listed (bid_form seals) seals) (listed (below_form seals (reserve - 1)) seals)
    (All-listed Fits (bid_form seals) seals
    (bids_fit seals width found.0 found.1 bids values case' claim' begins))
    (All-listed Fits (below_form seals (reserve - 1)) seals
    (λ j h. limit_within width case.wide.most values (reserve - 1) (seals + j)
    (omega (arith, case.reserve_within_width))
    (omega (
      arith,
      claim.is_sale (j + 1) (position_of bids j (omega (arith, claim.one_each))),
      bid_at_place bids j,
      bid_of seals width found.0 found.1 bids values case' claim' begins j h,
    ))))

pub sale_filled : (seals width reserve : ℕ) (sale : Sale) (bids : List ℕ)
    → IsReserveCase seals width reserve sale → IsWithinReserve reserve sale
    → IsBoardClaim seals width reserve sale bids
    → MayBeFilled bids (sale_ranges seals width reserve sale)
sale_filled seals width reserve sale bids case low claim = record {
  ranged = subst (λ n. IsRanged n (sale_ranges seals width reserve sale)) (sym claim.one_each)
      (sale_ranged seals width reserve sale case);
  of_width = sale_fits seals width reserve sale bids case low claim;
}

within_complete : (seals width reserve : ℕ) (sale : Sale) (bids : List ℕ)
    → IsReserveCase seals width reserve sale → IsWithinReserve reserve sale
    → IsBoardClaim seals width reserve sale bids
    → Holds (reserve_plan seals width reserve sale) (reserve_values seals width reserve sale bids)
within_complete seals width reserve sale bids case low claim =
    let relation = sale_ranges seals width reserve sale in
    let holds = ranged_of_width bids relation seals width claim.one_each case.wide.most
    claim.within_width (sale_filled seals width reserve sale bids case low claim) in
    subst (λ p. Holds p (reserve_values seals width reserve sale bids))
    (sym (plan_within seals width reserve sale low))
    (subst (Holds (ranged_plan seals relation))
    (sym (values_within seals width reserve sale bids low)) holds)

pub reserve_complete : (seals width reserve : ℕ) (sale : Sale) (bids : List ℕ)
    → IsReserveCase seals width reserve sale
    → IsBoardClaim seals width reserve sale bids
    → Holds (reserve_plan seals width reserve sale) (reserve_values seals width reserve sale bids)
reserve_complete seals width reserve (Sold position price) bids case claim =
    elim (cases_lt reserve price) [
      | inl above ↦
          subst (λ p. Holds p (reserve_values seals width reserve (Sold position price) bids))
          (sym (plan_above seals width reserve position price above))
          (subst (Holds (vickrey_plan seals width position price))
          (sym (values_above seals width reserve position price bids above))
          (vickrey_complete seals width position price bids
          (case_above seals width reserve position price case above)
          (claim_above seals width reserve position price bids above claim)))
      | inr low ↦ within_complete seals width reserve (Sold position price) bids case low claim
    ]
reserve_complete seals width reserve Unsold bids case claim =
    within_complete seals width reserve Unsold bids case tt claim

-- the inputs, and the values that begin with them
pub reserve_inputs : (seals width reserve : ℕ) (sale : Sale)
    → (reserve_plan seals width reserve sale).inputs ≡ seals
unfolding vickrey_plan
reserve_inputs seals width reserve (Sold position price) =
    elim (cases_lt reserve price) [
      | inl above ↦ ap (λ (p : PlanValue). p.inputs)
          (plan_above seals width reserve position price above)
      | inr low ↦ ap (λ (p : PlanValue). p.inputs)
          (plan_within seals width reserve (Sold position price) low)
    ]
reserve_inputs seals width reserve Unsold =
    ap (λ (p : PlanValue). p.inputs) (plan_within seals width reserve Unsold tt)

within_begins : (seals width reserve : ℕ) (sale : Sale) (bids : List ℕ)
    → IsWithinReserve reserve sale → length bids ≡ seals
    → take seals (reserve_values seals width reserve sale bids) ≡ bids
within_begins seals width reserve sale bids low same =
    ap (take seals) (values_within seals width reserve sale bids low)
    ∙ subst (λ n. take n (ranged_values bids (sale_ranges seals width reserve sale)) ≡ bids) same
    (ranged_begins bids (sale_ranges seals width reserve sale))

pub reserve_begins : (seals width reserve : ℕ) (sale : Sale) (bids : List ℕ) → length bids ≡ seals
    → take seals (reserve_values seals width reserve sale bids) ≡ bids
reserve_begins seals width reserve (Sold position price) bids same =
    elim (cases_lt reserve price) [
      | inl above ↦ ap (take seals) (values_above seals width reserve position price bids above)
          ∙ honest_begins seals width position price bids same
      | inr low ↦ within_begins seals width reserve (Sold position price) bids low same
    ]
reserve_begins seals width reserve Unsold bids same =
    within_begins seals width reserve Unsold bids tt same

-- the plan is one
within_is_plan : (seals width reserve : ℕ) (sale : Sale) → IsReserveCase seals width reserve sale
    → IsWithinReserve reserve sale
    → IsPlan (reserve_plan seals width reserve sale)
within_is_plan seals width reserve sale case low =
    subst IsPlan (sym (plan_within seals width reserve sale low))
    (ranged_is_plan seals (sale_ranges seals width reserve sale)
    (sale_ranged seals width reserve sale case))

pub reserve_is_plan : (seals width reserve : ℕ) (sale : Sale)
    → IsReserveCase seals width reserve sale → IsPlan (reserve_plan seals width reserve sale)
reserve_is_plan seals width reserve (Sold position price) case =
    elim (cases_lt reserve price) [
      | inl above ↦ subst IsPlan (sym (plan_above seals width reserve position price above))
          (vickrey_is_plan seals width position price
          (case_above seals width reserve position price case above))
      | inr low ↦ within_is_plan seals width reserve (Sold position price) case low
    ]
reserve_is_plan seals width reserve Unsold case = within_is_plan seals width reserve Unsold case tt

-- how many wires and rows it has
sets_of : (seals forms width : ℕ) (count : ℕ) → forms ≡ count
    → seals + seals + forms * width ≡ 2 * seals + count * width
sets_of seals forms width count same = ap (λ n. seals + seals + n * width) same ∙ omega arith

-- what is counted of the plan of a sale, by whether its price is above the reserve
sold_count : (of_plan : PlanValue → ℕ) (count : Bool → ℕ) (seals width reserve position price : ℕ)
    → of_plan (vickrey_plan seals width position price) ≡ count true
    → of_plan (ranged_plan seals (sale_ranges seals width reserve (Sold position price)))
    ≡ count false
    → of_plan (reserve_plan seals width reserve (Sold position price)) ≡ count (ltb reserve price)
sold_count of_plan count seals width reserve position price above within =
    elim (cases_lt reserve price) [
      | inl high ↦ ap of_plan (plan_above seals width reserve position price high) ∙ above
          ∙ sym (ap count (lt-ltb reserve price high))
      | inr low ↦ ap of_plan (plan_within seals width reserve (Sold position price) low) ∙ within
          ∙ sym (ap count (le-ltb reserve price low))
    ]

pub reserve_wires : (seals width reserve : ℕ) (sale : Sale) → 1 ≤ seals
    → length (reserve_plan seals width reserve sale).kinds
    ≡ sale_wire_count seals width reserve sale
reserve_wires seals width reserve (Sold position price) some =
    sold_count (λ plan. length plan.kinds)
    (λ b. if b then wire_count seals width else 2 * seals + (3 * seals - 1) * width)
    seals width reserve position price (vickrey_wires seals width position price some)
    (ranged_wires seals (sale_ranges seals width reserve (Sold position price))
    ∙ sets_of seals (length (sale_forms seals reserve (Sold position price))) width
    (3 * seals - 1) (length_at seals (position - 1) reserve some))
reserve_wires seals width reserve Unsold some =
    ap (λ (p : PlanValue). length p.kinds) (plan_within seals width reserve Unsold tt)
    ∙ ranged_wires seals (sale_ranges seals width reserve Unsold)
    ∙ sets_of seals (length (sale_forms seals reserve Unsold)) width (2 * seals)
    (length_unsold seals reserve)

pub reserve_rows : (seals width reserve : ℕ) (sale : Sale) → 1 ≤ seals
    → length (reserve_plan seals width reserve sale).rows ≡ sale_row_count seals reserve sale
reserve_rows seals width reserve (Sold position price) some =
    sold_count (λ plan. length plan.rows) (λ b. if b then row_count seals else 4 * seals - 1)
    seals width reserve position price (vickrey_rows seals width position price some)
    (ranged_rows seals (sale_ranges seals width reserve (Sold position price))
    ∙ omega (arith, length_at seals (position - 1) reserve some))
reserve_rows seals width reserve Unsold some =
    ap (λ (p : PlanValue). length p.rows) (plan_within seals width reserve Unsold tt)
    ∙ ranged_rows seals (sale_ranges seals width reserve Unsold)
    ∙ omega (arith, length_unsold seals reserve)

-- the laws of the plan, at its own number of inputs
pub sale_is_plan : (plan : ReservePlan)
    → IsPlan (reserve_plan plan.seals plan.width plan.reserve plan.sale)
sale_is_plan plan = reserve_is_plan plan.seals plan.width plan.reserve plan.sale plan.in_limits

pub sale_begins : (plan : ReservePlan) (bids : List ℕ)
    → IsBoardClaim plan.seals plan.width plan.reserve plan.sale bids
    → take (reserve_plan plan.seals plan.width plan.reserve plan.sale).inputs
    (reserve_values plan.seals plan.width plan.reserve plan.sale bids) ≡ bids
sale_begins plan bids claim =
    ap (λ n. take n (reserve_values plan.seals plan.width plan.reserve plan.sale bids))
    (reserve_inputs plan.seals plan.width plan.reserve plan.sale)
    ∙ reserve_begins plan.seals plan.width plan.reserve plan.sale bids claim.one_each

pub sale_sound : (plan : ReservePlan) (values : List ℕ)
    → Holds (reserve_plan plan.seals plan.width plan.reserve plan.sale) values
    → IsBoardClaim plan.seals plan.width plan.reserve plan.sale
    (take (reserve_plan plan.seals plan.width plan.reserve plan.sale).inputs values)
sale_sound plan values holds =
    subst (λ n. IsBoardClaim plan.seals plan.width plan.reserve plan.sale (take n values))
    (sym (reserve_inputs plan.seals plan.width plan.reserve plan.sale))
    (reserve_sound plan.seals plan.width plan.reserve plan.sale values plan.in_limits holds)

pub sale_complete : (plan : ReservePlan) (bids : List ℕ)
    → IsBoardClaim plan.seals plan.width plan.reserve plan.sale bids
    → Holds (reserve_plan plan.seals plan.width plan.reserve plan.sale)
    (reserve_values plan.seals plan.width plan.reserve plan.sale bids)
sale_complete plan bids claim =
    reserve_complete plan.seals plan.width plan.reserve plan.sale bids plan.in_limits claim
