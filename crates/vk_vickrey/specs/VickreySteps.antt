-- What the code meets on its way: plans that are plans, and room for the next set.
use Rattle.std.specs.Prelude.{Bool, true, false, ◌==◌, Option, Some, None, IsNone, IfSome, unwrap_or, ℕ, ◌+◌, ◌-◌, ◌*◌, ◌^◌, ◌<◌, ◌≤◌, ◌≡◌, ◌≢◌, if◌then◌else◌, List, ◌++◌, length, take}
use Rattle.std.proofs.Common.{suc, suc-mul, refl, sym, ap, ◌∙◌, subst, arith, inl, inr, length-append, mul-le-mul_left, mul-le-mul_right}
use Rattle.std.proofs.lemmas.List.{length-replicate, take-append-le, take_at}
use Rattle.std.proofs.lemmas.Bool.{eq-eqb, ne_eqb}
use Rattle.std.proofs.lemmas.Bool.Decides.{eqb_tells}
use Rattle.std.proofs.Math.Pow.{pow_mono}
use Rattle.vk_residue.specs.Residue.{modulus}
use Rattle.vk_plan.specs.declared.wire.WireKind.TheVariants.{Split}
use Rattle.vk_plan.specs.Plans.{PlanValue, IsPlan, Holds, plan_of_inputs, extended}
use Rattle.vk_range.specs.Others.{other}
use Rattle.vk_range.specs.SetLaws.{length_listed}
use Rattle.vk_range.specs.Series.{series_values}
use Rattle.vk_range.specs.Selected.{IsSelection, place_row, selected_wires, selected_rows, selected_values}
use Rattle.vk_range.specs.Rooms.{selected_room}
use Rattle.vk_range.specs.SelectedLaws.{length_selected}
use Rattle.vk_range.specs.Ranged.{ranges_of}
use Rattle.vk_range.specs.RangedLaws.{ranged_rows}
use Rattle.vk_vickrey.specs.VickreyPlans.{IsVickreyCase, IsVickreyClaim, bid_form, win_form, price_form, price_selection, vickrey_forms, vickrey_plan, wire_count, row_count, after_bids, after_wins, after_prices, after_selection, honest_values}
use Rattle.vk_vickrey.specs.VickreyLaws.{plan_alone, plan_many, selection, vickrey_sound}
use Rattle.vk_vickrey.specs.VickreyRanges.{length_forms, length_prices, prices_plan, prices_ranged, with_prices}

products : (count width : ℕ) → count ≤ 64 → width ≤ 40 → count * width ≤ 2560
products count width few small = omega (arith, mul-le-mul_right width few, mul-le-mul_left 64 small)

-- how many rows there are before the selection
rows_before : (seals width winner price : ℕ)
    → length (with_prices seals width winner price).rows ≡ seals + seals + (seals - 1) + (seals - 1)
rows_before seals width winner price =
    ap (λ (p : PlanValue). length p.rows) (prices_ranged seals width winner price)
    ∙ ranged_rows seals (ranges_of (vickrey_forms seals winner price) width)
    ∙ omega (arith, length_forms seals winner price)

module _ (seals width position price : ℕ) (case : IsVickreyCase seals width position price) where
  pub is_winner : position - 1 < seals
  is_winner = omega (arith, case.some_position, case.within_seals)

-- the values begin with the bids
pub honest_begins : (seals width position price : ℕ) (bids : List ℕ) → length bids ≡ seals
    → take seals (honest_values seals width position price bids) ≡ bids
unfolding honest_values
honest_begins seals width position price bids same =
    let winner = position - 1 in
    let v0 = bids ++ bids in
    let s1 = series_values v0 (bid_form seals) width seals in
    let v1 = v0 ++ s1 in
    let s2 = series_values v1 (win_form seals winner) width (seals - 1) in
    let v2 = v1 ++ s2 in
    let s3 = series_values v2 (price_form seals winner price) width (seals - 1) in
    let v3 = v2 ++ s3 in
    let relation = price_selection seals width winner price in
    let e0 : take seals v0 ≡ bids = take_at bids bids seals same in
    let l0 : seals ≤ length v0 = omega (arith, length-append bids bids) in
    let l1 : seals ≤ length v1 = omega (arith, length-append v0 s1) in
    let l2 : seals ≤ length v2 = omega (arith, length-append v1 s2) in
    let l3 : seals ≤ length v3 = omega (arith, length-append v2 s3) in
    let e3 : take seals v3 ≡ bids = take-append-le seals v2 s3 l2
    ∙ (take-append-le seals v1 s2 l1 ∙ (take-append-le seals v0 s1 l0 ∙ e0)) in
    elim (eqb_tells seals 1) [
      | inl one ↦ ap (λ b. take seals (if b then v3 else v3 ++ selected_values relation v3)) one.0
          ∙ e3
      | inr many ↦ ap (λ b. take seals (if b then v3 else v3 ++ selected_values relation v3)) many.0
          ∙ (take-append-le seals v3 (selected_values relation v3) l3 ∙ e3)
    ]

-- the two laws, at the plan's own number of inputs
pub circuit_begins : (seals width position price : ℕ) (bids : List ℕ)
    → IsVickreyClaim seals width position price bids
    → take (vickrey_plan seals width position price).inputs
    (honest_values seals width position price bids) ≡ bids
unfolding vickrey_plan
circuit_begins seals width position price bids claim =
    honest_begins seals width position price bids claim.one_each

pub circuit_sound : (seals width position price : ℕ) (values : List ℕ)
    → IsVickreyCase seals width position price
    → Holds (vickrey_plan seals width position price) values
    → IsVickreyClaim seals width position price
    (take (vickrey_plan seals width position price).inputs values)
unfolding vickrey_plan
circuit_sound seals width position price values case holds =
    vickrey_sound seals width position price values case holds

module _ (seals width position price : ℕ) (case : IsVickreyCase seals width position price) where
  -- the selection
  pub selection_fits : seals ≢ 1
      → IsSelection (price_selection seals width (position - 1) price)
      (length (with_prices seals width (position - 1) price).kinds)
  selection_fits many =
      selection seals width (position - 1) price
      (length (with_prices seals width (position - 1) price).kinds)
      (omega (arith, case.some_seals, many)) case.most_seals
      (is_winner seals width position price case) case.wide
      (omega (arith, length_prices seals width (position - 1) price))

  pub selection_room : seals ≢ 1
      → IsPlan (extended (with_prices seals width (position - 1) price)
      (selected_wires (price_selection seals width (position - 1) price))
      (selected_rows (price_selection seals width (position - 1) price)
      (length (with_prices seals width (position - 1) price).kinds)))
  selection_room many =
      let relation = price_selection seals width (position - 1) price in
      let wires = length_prices seals width (position - 1) price in
      let sets = products seals width case.most_seals case.wide.most in
      let fewer = products (seals - 1) width (omega (arith, case.most_seals)) case.wide.most in
      let long = length_listed (λ k. seals + other (position - 1) k) (seals - 1) in
      let few : length relation.wires ≤ 64 = omega (arith, case.most_seals) in
      selected_room (with_prices seals width (position - 1) price) relation
      (prices_plan seals width position price case) (selection_fits many)
      (omega (arith, products (length relation.wires) width few case.wide.most, case.most_seals))
      (omega (arith, rows_before seals width (position - 1) price, case.most_seals))

  -- the values before the selection, and at the end
  pub honest_alone : (bids before : List ℕ) → seals ≡ 1
      → before ≡ after_prices seals width (position - 1) price
      (after_wins seals width (position - 1) (after_bids seals width (bids ++ bids)))
      → before ≡ honest_values seals width position price bids
  unfolding honest_values
  honest_alone bids before one same =
      sym (ap (λ b. if b then before
      else before ++ selected_values (price_selection seals width (position - 1) price) before)
      (eq-eqb seals 1 one))
      ∙ ap (after_selection seals width (position - 1) price) same

  pub honest_many : (bids before after : List ℕ) → seals ≢ 1
      → before ≡ after_prices seals width (position - 1) price
      (after_wins seals width (position - 1) (after_bids seals width (bids ++ bids)))
      → after ≡ before ++ selected_values (price_selection seals width (position - 1) price) before
      → after ≡ honest_values seals width position price bids
  unfolding honest_values
  honest_many bids before after many same filled =
      filled ∙ (sym (ap (λ b. if b then before
      else before ++ selected_values (price_selection seals width (position - 1) price) before)
      (ne_eqb seals 1 many))
      ∙ ap (after_selection seals width (position - 1) price) same)

  pub selection_over : (values : List ℕ) → seals ≢ 1 → seals + seals ≤ length values
      → (plan : PlanValue) × (IsSelection (price_selection seals width (position - 1) price)
      (length plan.kinds) × (length plan.kinds ≡ length values))
  selection_over values many enough =
      let same = length-replicate (length values) Split in
      let fits = selection seals width (position - 1) price (length values)
      (omega (arith, case.some_seals, many)) case.most_seals
      (is_winner seals width position price case) case.wide enough in (
        plan_of_inputs (length values),
        (
          subst (IsSelection (price_selection seals width (position - 1) price)) (sym same) fits,
          same,
        ),
      )

-- a price of at most 40 bits is a residue
pub price_is_residue : (made : Option ℕ) (width price : ℕ) → width ≤ 40 → price < 2 ^ width
    → (IsNone made → modulus ≤ price) → IfSome made (λ r. r ≡ price)
    → unwrap_or made 0 ≡ price
price_is_residue None width price most small refused value =
    absurd (omega (arith, refused refl, pow_mono {i = width} {j = 40} most))
price_is_residue (Some r) width price most small refused value = value

-- how many wires and rows the plan has
four_sets : (k width : ℕ) → width * (4 * k + 1) ≡ 4 * (k * width) + width
four_sets k width = omega arith

prices_count : (seals width winner price : ℕ) → 1 ≤ seals
    → length (with_prices seals width winner price).kinds + (seals - 1) * width
    ≡ 2 * seals + width * (4 * seals - 3)
prices_count seals width winner price some =
    let one_more : seals ≡ suc (seals - 1) = omega arith in
    let all : seals * width ≡ (seals - 1) * width + width = ap (λ n. n * width) one_more
    ∙ suc-mul (seals - 1) width in
    let sets : 4 * seals - 3 ≡ 4 * (seals - 1) + 1 = omega arith in
    let product : width * (4 * seals - 3) ≡ 4 * ((seals - 1) * width) + width =
    ap (λ n. width * n) sets ∙ four_sets (seals - 1) width in
    omega (arith, length_prices seals width winner price)

-- the plan is one, with so many wires and rows
pub vickrey_is_plan : (seals width position price : ℕ) → IsVickreyCase seals width position price
    → IsPlan (vickrey_plan seals width position price)
vickrey_is_plan seals width position price case =
    elim (eqb_tells seals 1) [
      | inl one ↦ subst IsPlan (sym (plan_alone seals width position price one.0))
          (prices_plan seals width position price case)
      | inr many ↦ subst IsPlan (sym (plan_many seals width position price many.0))
          (selection_room seals width position price case many.1)
    ]

pub vickrey_wires : (seals width position price : ℕ) → 1 ≤ seals
    → length (vickrey_plan seals width position price).kinds ≡ wire_count seals width
vickrey_wires seals width position price some =
    let winner = position - 1 in
    let relation = price_selection seals width winner price in
    let plan = with_prices seals width winner price in
    let long = length_listed (λ k. seals + other winner k) (seals - 1) in
    let sets = ap (λ n. n * width) long in
    let count = prices_count seals width winner price some in
    elim (eqb_tells seals 1) [
      | inl one ↦
          (let others : seals - 1 ≡ 0 = omega (arith, one.1) in
          let none = ap (λ n. n * width) others in
          ap (λ p. length p.kinds) (plan_alone seals width position price one.0)
          ∙ omega (arith, count, none, others))
      | inr many ↦ ap (λ p. length p.kinds) (plan_many seals width position price many.0)
          ∙ (length-append plan.kinds (selected_wires relation)
          ∙ omega (arith, length_selected relation, sets, long, count))
    ]

pub vickrey_rows : (seals width position price : ℕ) → 1 ≤ seals
    → length (vickrey_plan seals width position price).rows ≡ row_count seals
vickrey_rows seals width position price some =
    let winner = position - 1 in
    let relation = price_selection seals width winner price in
    let plan = with_prices seals width winner price in
    let start = length plan.kinds in
    let long = length_listed (λ k. seals + other winner k) (seals - 1) in
    let before = rows_before seals width winner price in
    let counted : (b : Bool) → (seals == 1) ≡ b
    → (if b then 2 else 5 * seals - 2) ≡ row_count seals =
    λ b is. sym (ap (λ b. if b then 2 else 5 * seals - 2) is) in
    elim (eqb_tells seals 1) [
      | inl one ↦ ap (λ p. length p.rows) (plan_alone seals width position price one.0)
          ∙ (omega (arith, before, one.1) ∙ counted true one.0)
      | inr many ↦ ap (λ p. length p.rows) (plan_many seals width position price many.0)
          ∙ (length-append plan.rows (selected_rows relation start)
          ∙ (omega (
            arith,
            before,
            some,
            many.1,
            length_listed (place_row relation start) (length relation.wires),
          )
          ∙ counted false many.0))
    ]

-- so has a plan that is this one
pub vickrey_counts : (seals width position price : ℕ) (plan : PlanValue) → 1 ≤ seals
    → plan ≡ vickrey_plan seals width position price
    → (length plan.kinds ≡ wire_count seals width) × (length plan.rows ≡ row_count seals)
vickrey_counts seals width position price plan some is = (
  ap (λ (p : PlanValue). length p.kinds) is ∙ vickrey_wires seals width position price some,
  ap (λ (p : PlanValue). length p.rows) is ∙ vickrey_rows seals width position price some,
)
