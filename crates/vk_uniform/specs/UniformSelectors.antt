-- Which selector is 1: that of the first loser who holds the price.
use Rattle.std.specs.Prelude.{ℕ, ◌+◌, ◌*◌, ◌<◌, ◌≡◌, ◌≢◌, ◌==◌, if◌then◌else◌, List, ◌++◌, length, slice_index}
use Rattle.std.proofs.Common.{sym, ap, ◌∙◌, arith}
use Rattle.std.proofs.lemmas.List.{length-map}
use Rattle.vk_range.specs.Copies.{BeginsWith}
use Rattle.vk_range.specs.Ranged.{ranged_values}
use Rattle.vk_range.specs.RangedLaws.{ranged_wires}
use Rattle.vk_range.specs.Selected.{first_place, selector, selected_values}
use Rattle.vk_range.specs.Holders.{value_at, first_holder, selector_behind}
use Rattle.vk_uniform.specs.Outcomes.{bid_at}
use Rattle.vk_uniform.specs.Losers.{losers_lose}
use Rattle.vk_uniform.specs.UniformPlans.{IsUniformCase, IsUniformClaim, width_of, price_of, winners_of, losers_of, copy_at, uniform_ranges, price_selection, uniform_values}
use Rattle.vk_uniform.specs.UniformForms.{length_forms}
use Rattle.vk_uniform.specs.UniformLaws.{bid_here, copy_read, listed_low, begins_ranged, ranged_holds, values_many}

-- the first of the listed losers whose bid is the price
pub record IsFirstLoserAtPrice (inputs : ℕ) (numbers bids : List ℕ) (place : ℕ) : Type 0 where
  pub is_place : place < length (losers_of inputs numbers)
  pub holds : bid_at bids (slice_index (losers_of inputs numbers) place) ≡ price_of numbers
  pub none_before : (before : ℕ) → before < place
      → bid_at bids (slice_index (losers_of inputs numbers) before) ≢ price_of numbers

-- the wire of the first selector
abbrev pub selectors_start : ℕ → List ℕ → ℕ
selectors_start inputs numbers =
    let winning = length (winners_of numbers) in
    let losing = length (losers_of inputs numbers) in
    2 * inputs + width_of numbers * (inputs + winning * losing + losing)

-- the selector of the loser at that place is 1, and the other selectors are 0
abbrev pub SelectsLoser : ℕ → List ℕ → List ℕ → ℕ → Type 0
SelectsLoser inputs numbers values place =
    (k : ℕ) → k < length (losers_of inputs numbers)
    → slice_index values (selectors_start inputs numbers + k)
    ≡ (if k == place then 1 else 0)

module _ (inputs : ℕ) (numbers bids values : List ℕ) (case : IsUniformCase inputs numbers) (claim : IsUniformClaim inputs numbers bids)
    (begins : BeginsWith bids values) where
  -- a listed loser's bid, where the selection reads it
  bid_read : (place : ℕ) → place < length (losers_of inputs numbers)
      → value_at (price_selection inputs numbers) values place
      ≡ bid_at bids (slice_index (losers_of inputs numbers) place)
  bid_read place h =
      copy_read inputs numbers bids values case claim begins place h
      ∙ bid_here inputs numbers bids values case claim begins
      (slice_index (losers_of inputs numbers) place)
      (losers_lose inputs (winners_of numbers) place 0 h).is_position

  holder_is_first : (place : ℕ) → IsFirstLoserAtPrice inputs numbers bids place → place
      ≡ first_place (price_selection inputs numbers) values
  holder_is_first place first =
      let long = length-map (losers_of inputs numbers) (copy_at inputs) in
      first_holder (price_selection inputs numbers) values case.limits.wide.most
      case.limits.within_width (listed_low inputs numbers bids values case claim begins) place
      (omega (arith, first.is_place)) (bid_read place first.is_place ∙ first.holds)
      (λ k before holds. first.none_before k before
      (sym (bid_read k (omega (arith, first.is_place))) ∙ holds))

pub filled_selector : (inputs place : ℕ) (numbers bids : List ℕ) → IsUniformCase inputs numbers
    → IsUniformClaim inputs numbers bids
    → IsFirstLoserAtPrice inputs numbers bids place
    → SelectsLoser inputs numbers (uniform_values inputs numbers bids) place
filled_selector inputs place numbers bids case claim first k h =
    let relation = price_selection inputs numbers in
    let outside = losers_of inputs numbers in
    let ranges = uniform_ranges inputs numbers in
    let before = ranged_values bids ranges in
    let holds = ranged_holds inputs numbers bids case claim in
    let begins = begins_ranged inputs numbers bids case claim in
    let same = holder_is_first inputs numbers bids before case claim begins place first in
    let forms = ap (λ count. count * width_of numbers) (length_forms inputs numbers) in
    let start : length before ≡ selectors_start inputs numbers =
    omega (arith, holds.one_each, ranged_wires inputs ranges, forms) in
    let long = length-map outside (copy_at inputs) in
    let whole = before ++ selected_values relation before in
    ap (λ values. slice_index values (selectors_start inputs numbers + k))
    (values_many inputs numbers bids (omega (arith, first.is_place)))
    ∙ ap (λ n. slice_index whole (n + k)) (sym start)
    ∙ selector_behind relation before k (omega arith)
    ∙ ap (λ p. selector p k) (sym same)
