-- One of several wires is selected: it is at least a value by less than 2 ^ width, and each other
-- is at most it by less than 2 ^ width.
use Rattle.std.specs.Prelude.{ℕ, ◌+◌, ◌-◌, ◌*◌, ◌^◌, ◌<◌, ◌≤◌, ◌≢◌, ◌==◌, Bool, true, false, if◌then◌else◌, nat_lt, List, [], ◌∷◌, ◌++◌, All, length, slice_index}
use Rattle.std.specs.List.{list_all, position_or_len, range_with_len}
use Rattle.vk_residue.specs.Limits.{IsWidth}
use Rattle.vk_residue.specs.Residue.{modulus, sum, difference, negative}
use Rattle.vk_plan.specs.declared.wire.WireKind.{WireKind}
use Rattle.vk_plan.specs.declared.wire.WireKind.TheVariants.{Pair}
use Rattle.vk_plan.specs.declared.form.Form.{Form}
use Rattle.vk_range.specs.declared.selected.SelectedIs.{SelectedIs}
use Rattle.vk_range.specs.Sets.{listed, joined, IsOfWidth, test_set, plus, set_row, bit_parts}

-- the greatest number of the width
abbrev pub ones : ℕ → ℕ
ones width = 2 ^ width - 1

-- 1 to 63 wires of the first so many, and a width from 1 to 40
pub record IsSelection (relation : SelectedIs) (wires : ℕ) : Type 0 where
  pub names : All (λ wire. wire < wires) relation.wires
  pub one : 1 ≤ length relation.wires
  pub most : length relation.wires ≤ 63
  pub wide : IsWidth relation.width

-- (2 ^ width - 1) * (1 - selector) - value + wire, the selectors beginning at a wire
abbrev pub place_form : SelectedIs → ℕ → ℕ → Form
place_form relation start place = record {
  terms = record { wire = start + place; factor = negative (ones relation.width) }
      ∷ plus (slice_index relation.wires place) ∷ [];
  constant = difference (ones relation.width) relation.value;
}

-- what that comes to where the selector is 1, and where it is 0
abbrev pub place_number : SelectedIs → List ℕ → ℕ → Bool → ℕ
place_number relation values place selected =
    let wire = slice_index values (slice_index relation.wires place) in
    if selected then difference wire relation.value
    else sum wire (difference (ones relation.width) relation.value)

-- the sum of the selectors, less 1
abbrev pub selector_row : SelectedIs → ℕ → Form
selector_row relation start = record {
  terms =
      listed (λ place. plus (start + place)) (length relation.wires);
  constant = modulus - 1;
}

-- the row of a place's set, which stands behind the selectors and the sets of the places before
abbrev pub place_row : SelectedIs → ℕ → ℕ → Form
place_row relation start place =
    set_row (place_form relation start place)
    (start + length relation.wires + place * relation.width) relation.width

-- a pair of weight 1 for each place, and then a set for each place
abbrev pub selected_wires : SelectedIs → List WireKind
selected_wires relation = listed (λ _. Pair 0) (length relation.wires)
    ++ joined (λ _. test_set relation.width) (length relation.wires)

abbrev pub selected_rows : SelectedIs → ℕ → List Form
selected_rows relation start =
    selector_row relation start ∷ listed (place_row relation start) (length relation.wires)

-- the place may be the selected one
pub record IsSelected (relation : SelectedIs) (values : List ℕ) (place : ℕ) : Type 0 where
  pub is_place : place < length relation.wires
  pub here : IsOfWidth relation.width (place_number relation values place true)
  pub others : (other : ℕ) → other < length relation.wires → other ≢ place
      → IsOfWidth relation.width (place_number relation values other false)

-- the same as a test
abbrev pub may_stand : SelectedIs → List ℕ → ℕ → ℕ → Bool
may_stand relation values place other =
    nat_lt (place_number relation values other (other == place)) (2 ^ relation.width)

unfoldable pub serves : SelectedIs → List ℕ → ℕ → Bool
serves relation values place =
    list_all (may_stand relation values place) (range_with_len 0 (length relation.wires))

-- the first place that may be the selected one
unfoldable pub first_place : SelectedIs → List ℕ → ℕ
first_place relation values = position_or_len (serves relation values)
    (range_with_len 0 (length relation.wires))

-- the selector of the first such place is 1, and each set has the value of its place's form
abbrev pub selector : ℕ → ℕ → ℕ
selector place other = if other == place then 1 else 0

abbrev pub selectors : ℕ → ℕ → List ℕ
selectors count place = listed (selector place) count

abbrev pub place_parts : SelectedIs → List ℕ → ℕ → ℕ → List ℕ
place_parts relation values place other =
    bit_parts (place_number relation values other (other == place)) relation.width

abbrev pub selected_values : SelectedIs → List ℕ → List ℕ
selected_values relation values =
    let place = first_place relation values in
    selectors (length relation.wires) place
    ++ joined (place_parts relation values place) (length relation.wires)
