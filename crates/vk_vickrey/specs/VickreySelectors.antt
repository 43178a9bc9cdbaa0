-- Which selector is 1: that of the first of the others who holds the price.
use Rattle.std.specs.Prelude.{ℕ, ◌+◌, ◌-◌, ◌*◌, ◌<◌, ◌≡◌, ◌≢◌, ◌==◌, if◌then◌else◌, List, ◌++◌, length, slice_index}
use Rattle.std.proofs.Common.{sym, ap, ◌∙◌, arith}
use Rattle.std.proofs.lemmas.Bool.{ne_eqb}
use Rattle.vk_range.specs.Others.{other, other_within}
use Rattle.vk_range.specs.Copies.{BeginsWith}
use Rattle.vk_range.specs.SetLaws.{length_listed, at_listed}
use Rattle.vk_range.specs.Selected.{first_place, selector, selected_values}
use Rattle.vk_range.specs.Holders.{value_at, first_holder, selector_behind}
use Rattle.vk_vickrey.specs.VickreyPlans.{IsVickreyCase, IsVickreyClaim, price_selection, after_bids, after_wins, after_prices, honest_values}
use Rattle.vk_vickrey.specs.VickreyLaws.{before_selection, begins_prices}
use Rattle.vk_vickrey.specs.VickreyRanges.{bid_of, listed_low, length_prices}

-- the first of the other places whose bid is the price
pub record IsFirstHolder (bids : List ℕ) (winner price place : ℕ) : Type 0 where
  pub holds : slice_index bids (other winner place) ≡ price
  pub none_before : (before : ℕ) → before < place → slice_index bids (other winner before) ≢ price

-- of the selectors that begin at a wire, that of the place is 1 and the others are 0
abbrev pub SelectsAt : List ℕ → ℕ → ℕ → ℕ → Type 0
SelectsAt values start count place = (k : ℕ) → k < count
    → slice_index values (start + k) ≡ (if k == place then 1 else 0)

-- the wire of the first selector
abbrev pub selectors_start : ℕ → ℕ → ℕ
selectors_start seals width = 2 * seals + seals * width + (seals - 1) * width + (seals - 1) * width

-- the copy of another's bid, where the selection reads it
copy_read : (seals width position price place : ℕ) (bids values : List ℕ)
    → IsVickreyCase seals width position price → IsVickreyClaim seals width position price bids
    → BeginsWith bids values → place < seals - 1
    → slice_index values (slice_index (price_selection seals width (position - 1) price).wires
    place) ≡ slice_index bids (other (position - 1) place)
copy_read seals width position price place bids values case claim begins h =
    let winner = position - 1 in
    ap (slice_index values) (at_listed (λ k. seals + other winner k) (seals - 1) place 0 h)
    ∙ bid_of seals width position price bids values case claim begins (other winner place)
    (other_within seals winner place (omega (arith, case.some_position, case.within_seals)) h)

holder_is_first : (seals width position price place : ℕ) (bids values : List ℕ)
    → IsVickreyCase seals width position price → IsVickreyClaim seals width position price bids
    → BeginsWith bids values → place < seals - 1 → IsFirstHolder bids (position - 1) price place
    → place ≡ first_place (price_selection seals width (position - 1) price) values
holder_is_first seals width position price place bids values case claim begins h first =
    let long = length_listed (λ k. seals + other (position - 1) k) (seals - 1) in
    let relation = price_selection seals width (position - 1) price in
    let read : (k : ℕ) → k < seals - 1
    → value_at relation values k ≡ slice_index bids (other (position - 1) k) =
    λ k. copy_read seals width position price k bids values case claim begins in
    first_holder relation values case.wide.most case.within_width
    (listed_low seals width position price bids values case claim begins) place (omega arith)
    (read place h ∙ first.holds)
    (λ k before holds. first.none_before k before (sym (read k (omega arith)) ∙ holds))

pub honest_selector : (seals width position price place : ℕ) (bids : List ℕ)
    → IsVickreyCase seals width position price → IsVickreyClaim seals width position price bids
    → place < seals - 1 → IsFirstHolder bids (position - 1) price place
    → SelectsAt (honest_values seals width position price bids) (selectors_start seals width)
    (seals - 1) place
unfolding honest_values
honest_selector seals width position price place bids case claim h first k l =
    let winner = position - 1 in
    let relation = price_selection seals width winner price in
    let v3 = after_prices seals width winner price
    (after_wins seals width winner (after_bids seals width (bids ++ bids))) in
    let holds = before_selection seals width position price bids case claim in
    let begins = begins_prices seals width winner price bids in
    let same = holder_is_first seals width position price place bids v3 case claim begins h first in
    let start : length v3 ≡ selectors_start seals width =
    holds.one_each ∙ length_prices seals width winner price in
    let long = length_listed (λ p. seals + other winner p) (seals - 1) in
    let whole = v3 ++ selected_values relation v3 in
    ap (λ b. slice_index (if b then v3 else whole) (selectors_start seals width + k))
    (ne_eqb seals 1 (omega arith))
    ∙ (ap (λ n. slice_index whole (n + k)) (sym start)
    ∙ (selector_behind relation v3 k (omega arith) ∙ ap (λ p. selector p k) (sym same)))
