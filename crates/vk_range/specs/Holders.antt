-- A selection among wires of which none is above the value, as bids are not above a price: what may
-- be selected is a wire that holds the value.
use Rattle.std.specs.Prelude.{ℕ, ◌+◌, ◌^◌, ◌<◌, ◌≤◌, ◌≡◌, ◌≢◌, List, ◌++◌, length, slice_index}
use Rattle.std.proofs.Common.{◌∙◌, arith}
use Rattle.std.proofs.lemmas.Bool.{false_from_ne_true}
use Rattle.std.proofs.lemmas.List.{get_or_append_left, get_or-append-add}
use Rattle.vk_range.specs.declared.selected.SelectedIs.{SelectedIs}
use Rattle.vk_range.specs.Sets.{joined}
use Rattle.vk_range.specs.SetLaws.{length_listed, at_listed}
use Rattle.vk_range.specs.Differences.{width_small, reaches_means, equal_fits, below_fits}
use Rattle.vk_range.specs.Selected.{IsSelected, serves, first_place, selector, selectors, place_parts, selected_values}
use Rattle.vk_range.specs.SelectedLaws.{serves_from, selected_from, first_place_found}

-- the wire of a place
abbrev pub value_at : SelectedIs → List ℕ → ℕ → ℕ
value_at relation values place = slice_index values (slice_index relation.wires place)

module _ (relation : SelectedIs) (values : List ℕ) (most : relation.width ≤ 40)
    (within : relation.value < 2 ^ relation.width)
    (low : (place : ℕ) → place < length relation.wires
    → value_at relation values place ≤ relation.value) where
  pub selected_holds : (place : ℕ) → IsSelected relation values place
      → value_at relation values place ≡ relation.value
  selected_holds place selected =
      reaches_means (value_at relation values place) relation.value (2 ^ relation.width)
      (low place selected.is_place) within (width_small relation.width most) selected.here

  pub holder_selected : (place : ℕ) → place < length relation.wires
      → value_at relation values place ≡ relation.value → IsSelected relation values place
  holder_selected place inside holds = record {
    is_place = inside;
    here = equal_fits (value_at relation values place) relation.value (2 ^ relation.width) holds
        within (width_small relation.width most);
    others = λ other h ne. below_fits (value_at relation values other) relation.value
        (2 ^ relation.width) (low other h) within (width_small relation.width most);
  }

  -- so the first of these is the one that is selected
  pub first_holder : (place : ℕ) → place < length relation.wires
      → value_at relation values place ≡ relation.value
      → ((before : ℕ) → before < place → value_at relation values before ≢ relation.value)
      → place ≡ first_place relation values
  first_holder place inside holds none_before =
      first_place_found relation values place (omega arith)
      (λ k before. false_from_ne_true (serves relation values k) (λ test.
      none_before k before
      (selected_holds k (selected_from relation values k (omega arith) test))))
      (λ _. serves_from relation values place (holder_selected place inside holds))

-- the selectors stand behind the values
pub selector_behind : (relation : SelectedIs) (values : List ℕ) (k : ℕ) → k < length relation.wires
    → slice_index (values ++ selected_values relation values) (length values + k)
    ≡ selector (first_place relation values) k
selector_behind relation values k inside =
    let n = length relation.wires in
    let first = first_place relation values in
    let rest = joined (place_parts relation values first) n in
    get_or-append-add values (selectors n first ++ rest) k 0
    ∙ get_or_append_left (selectors n first) rest 0 k
    (omega (arith, length_listed (selector first) n))
    ∙ at_listed (selector first) n k 0 inside
