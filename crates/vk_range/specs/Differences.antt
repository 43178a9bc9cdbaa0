-- Of numbers of at most 40 bits: a difference is of the width exactly where it is one of whole
-- numbers.
use Rattle.std.specs.Prelude.{ℕ, ◌+◌, ◌-◌, ◌*◌, ◌%◌, ◌^◌, ◌<◌, ◌≤◌, ◌≡◌, Bool, true, false, nat_lt, List, [], ◌∷◌, slice_index}
use Rattle.std.proofs.Common.{refl, sym, subst, arith}
use Rattle.std.proofs.lemmas.Bool.{false≢true, lt-ltb, ltb-true}
use Rattle.std.proofs.Math.Pow.{pow_mono}
use Rattle.vk_residue.specs.Residue.{modulus, sum, difference}
use Rattle.vk_plan.specs.Forms.{linear_part, form_value}
use Rattle.vk_range.specs.Sets.{IsOfWidth, plus, minus}
use Rattle.vk_range.specs.Forms.{difference_form, less_one}
use Rattle.vk_range.specs.Laws.{difference_value}

pub width_small : (width : ℕ) → width ≤ 40 → 2 ^ width ≤ 1099511627776
width_small width most = pow_mono {i = width} {j = 40} most

within_means : (b price bound : ℕ) → b < bound → price < bound → bound ≤ 1099511627776
    → ((modulus - 1) * b + price) % modulus < bound → b ≤ price
within_means b price bound hb hp small h = omega arith

within_fits : (b price bound : ℕ) → price < bound → bound ≤ 1099511627776 → b ≤ price
    → ((modulus - 1) * b + price) % modulus < bound
within_fits b price bound hp small h = omega arith

-- and a number that isn't above the price is selected exactly where it is the price
pub reaches_means : (b price bound : ℕ) → b ≤ price → price < bound → bound ≤ 1099511627776
    → difference b price < bound → b ≡ price
reaches_means b price bound le hp small h = omega arith

pub equal_fits : (b price bound : ℕ) → b ≡ price → price < bound → bound ≤ 1099511627776
    → difference b price < bound
equal_fits b price bound same hp small = omega arith

pub below_fits : (b price bound : ℕ) → b ≤ price → price < bound → bound ≤ 1099511627776
    → sum b (difference (bound - 1) price) < bound
below_fits b price bound le hp small = omega arith

-- the same of forms over wires of the width: of one wire, of a limit less a wire, and of a wire
-- less another, less 1 where the other's place is before the own
less_means : (a b bound : ℕ) (strict : Bool) → a < bound → b < bound → bound ≤ 1099511627776
    → (a + (modulus - 1) * b + less_one strict) % modulus < bound
    → (b ≤ a) × (strict ≡ true → b < a)
less_means a b bound true ha hb small h = (omega (arith, h), λ _. omega (arith, h))
less_means a b bound false ha hb small h = (omega (arith, h), λ e. absurd (false≢true e))

less_fits : (a b bound : ℕ) (strict : Bool) → a < bound → bound ≤ 1099511627776 → b ≤ a
    → (strict ≡ true → b < a)
    → (a + (modulus - 1) * b + less_one strict) % modulus < bound
less_fits a b bound true ha small le more = omega (arith, more refl)
less_fits a b bound false ha small le more = omega arith

pub wire_value : (wire : ℕ) (values : List ℕ) → slice_index values wire < modulus
    → form_value (record { terms = plus wire ∷ []; constant = 0 }) values ≡ slice_index values wire
unfolding form_value linear_part
wire_value wire values small = omega arith

limit_value : (limit wire : ℕ) (values : List ℕ)
    → form_value (record { terms = minus wire ∷ []; constant = limit }) values
    ≡ ((modulus - 1) * slice_index values wire + limit) % modulus
unfolding form_value linear_part
limit_value limit wire values = omega arith

module _ (width : ℕ) (most : width ≤ 40) (values : List ℕ) where
  pub wire_within : (wire : ℕ) → IsOfWidth width (slice_index values wire)
      → IsOfWidth width (form_value (record { terms = plus wire ∷ []; constant = 0 }) values)
  wire_within wire small =
      subst (IsOfWidth width)
      (sym (wire_value wire values (omega (arith, small, width_small width most)))) small

  pub limit_shown : (limit wire : ℕ) → IsOfWidth width limit
      → IsOfWidth width (slice_index values wire)
      → IsOfWidth width (form_value (record { terms = minus wire ∷ []; constant = limit }) values)
      → slice_index values wire ≤ limit
  limit_shown limit wire of_limit of_wire within =
      within_means (slice_index values wire) limit (2 ^ width) of_wire of_limit
      (width_small width most) (subst (IsOfWidth width) (limit_value limit wire values) within)

  pub limit_within : (limit wire : ℕ) → IsOfWidth width limit → slice_index values wire ≤ limit
      → IsOfWidth width (form_value (record { terms = minus wire ∷ []; constant = limit }) values)
  limit_within limit wire of_limit low =
      subst (IsOfWidth width) (sym (limit_value limit wire values))
      (within_fits (slice_index values wire) limit (2 ^ width) of_limit (width_small width most)
      low)

  pub order_shown : (left right other own : ℕ) → IsOfWidth width (slice_index values left)
      → IsOfWidth width (slice_index values right)
      → IsOfWidth width (form_value (difference_form left right (nat_lt other own)) values)
      → (slice_index values right ≤ slice_index values left)
      × (other < own → slice_index values right < slice_index values left)
  order_shown left right other own of_left of_right within =
      let shown = less_means (slice_index values left) (slice_index values right) (2 ^ width)
      (nat_lt other own) of_left of_right (width_small width most)
      (subst (IsOfWidth width) (difference_value left right (nat_lt other own) values) within) in
      (shown.0, λ before. shown.1 (lt-ltb other own before))

  pub order_within : (left right other own : ℕ) → IsOfWidth width (slice_index values left)
      → slice_index values right ≤ slice_index values left
      → (other < own → slice_index values right < slice_index values left)
      → IsOfWidth width (form_value (difference_form left right (nat_lt other own)) values)
  order_within left right other own of_left low more =
      subst (IsOfWidth width) (sym (difference_value left right (nat_lt other own) values))
      (less_fits (slice_index values left) (slice_index values right) (2 ^ width)
      (nat_lt other own) of_left (width_small width most) low
      (λ test. more (ltb-true other own test)))
