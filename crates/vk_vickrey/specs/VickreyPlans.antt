-- The plan that shows a second-price outcome, and the values that hold for it. Wires, rows and the
-- places below count from 0; the published position counts from 1.
use Rattle.std.specs.Prelude.{ℕ, ◌+◌, ◌-◌, ◌*◌, ◌^◌, ◌<◌, ◌≤◌, ◌≡◌, ◌==◌, if◌then◌else◌, nat_lt, List, [], ◌∷◌, ◌++◌, All, length, replicate}
use Rattle.vk_residue.specs.Limits.{IsWidth}
use Rattle.vk_plan.specs.declared.wire.WireKind.TheVariants.{Split}
use Rattle.vk_plan.specs.declared.form.Form.{Form}
use Rattle.vk_plan.specs.Plans.{PlanValue}
use Rattle.vk_range.specs.declared.selected.SelectedIs.{SelectedIs}
use Rattle.vk_range.specs.Others.{other}
use Rattle.vk_range.specs.Copies.{copies_kinds, copies_rows}
use Rattle.vk_range.specs.Sets.{listed, plus, minus}
use Rattle.vk_range.specs.Forms.{difference_form}
use Rattle.vk_range.specs.Series.{series_kinds, series_rows, series_values}
use Rattle.vk_range.specs.Selected.{selected_wires, selected_rows, selected_values}
use Rattle.vk_vickrey.specs.Outcomes.{IsVickreyOutcome}

-- the numbers that are published of an auction, within their limits
pub record IsVickreyCase (seals width position price : ℕ) : Type 0 where
  pub some_seals : 1 ≤ seals
  pub most_seals : seals ≤ 64
  pub wide : IsWidth width
  pub some_position : 1 ≤ position
  pub within_seals : position ≤ seals
  pub within_width : price < 2 ^ width
  pub alone : seals ≡ 1 → price ≡ 0

-- what the plan shows of the bids
pub record IsVickreyClaim (seals width position price : ℕ) (bids : List ℕ) : Type 0 where
  pub one_each : length bids ≡ seals
  pub within_width : All (λ bid. bid < 2 ^ width) bids
  pub outcome : IsVickreyOutcome bids position price

-- Y_j, the copy of the bid X_j
abbrev pub bid_form : ℕ → ℕ → Form
bid_form seals j = record { terms = plus (seals + j) ∷ []; constant = 0 }

-- the winner's Y less another's, and less 1 where the other stands before the winner
abbrev pub win_form : ℕ → ℕ → ℕ → Form
win_form seals winner k = difference_form (seals + winner) (seals + other winner k)
    (nat_lt k winner)

-- the price less another's Y
abbrev pub price_form : ℕ → ℕ → ℕ → ℕ → Form
price_form seals winner price k =
    record { terms = minus (seals + other winner k) ∷ []; constant = price }

-- what is of the width, in order: each copy, the winner's less each other's, and the price less
-- each other's
abbrev pub vickrey_forms : ℕ → ℕ → ℕ → List Form
vickrey_forms seals winner price =
    listed (bid_form seals) seals ++ listed (win_form seals winner) (seals - 1)
    ++ listed (price_form seals winner price) (seals - 1)

-- one of the others' Y is the price
abbrev pub price_selection : ℕ → ℕ → ℕ → ℕ → SelectedIs
price_selection seals width winner price =
    record {
      wires = listed (λ k. seals + other winner k) (seals - 1);
      value = price;
      width = width;
    }

-- The rows, in order: each bid is its copy; each copy is of the width; so is the winner's less each
-- other's, less 1 for those who stand before; so is the price less each other's; and, where there
-- are others, one selector is 1, and what it selects is at least the price.
unfoldable pub vickrey_plan : ℕ → ℕ → ℕ → ℕ → PlanValue
vickrey_plan seals width position price =
    let winner = position - 1 in
    let others = seals - 1 in
    let bids = 2 * seals in
    let wins = bids + seals * width in
    let prices = wins + others * width in
    let selectors = prices + others * width in
    record {
      inputs = seals;
      kinds = replicate seals Split ++ copies_kinds seals
          ++ series_kinds width seals
          ++ series_kinds width others
          ++ series_kinds width others
          ++ (if seals == 1 then [] else selected_wires (price_selection seals width winner price));
      rows = copies_rows seals seals
          ++ series_rows (bid_form seals) bids width seals
          ++ series_rows (win_form seals winner) wins width others
          ++ series_rows (price_form seals winner price) prices width others
          ++ (if seals == 1 then []
          else selected_rows (price_selection seals width winner price) selectors);
    }

-- how many wires it has, and how many rows
abbrev pub wire_count : ℕ → ℕ → ℕ
wire_count seals width = 2 * seals + (seals - 1) + width * (4 * seals - 3)

abbrev pub row_count : ℕ → ℕ
row_count seals = if seals == 1 then 2 else 5 * seals - 2

-- values with those of the next sets behind them: each pair has its weight where that bit of its
-- set's form is set
abbrev pub after_bids : ℕ → ℕ → List ℕ → List ℕ
after_bids seals width values = values ++ series_values values (bid_form seals) width seals

abbrev pub after_wins : ℕ → ℕ → ℕ → List ℕ → List ℕ
after_wins seals width winner values =
    values ++ series_values values (win_form seals winner) width (seals - 1)

abbrev pub after_prices : ℕ → ℕ → ℕ → ℕ → List ℕ → List ℕ
after_prices seals width winner price values =
    values ++ series_values values (price_form seals winner price) width (seals - 1)

-- and where there are others, the selector of the first of them that holds the price is 1
abbrev pub after_selection : ℕ → ℕ → ℕ → ℕ → List ℕ → List ℕ
after_selection seals width winner price values =
    if seals == 1 then values else values
    ++ selected_values (price_selection seals width winner price) values

-- the bids, their copies, and the values of the sets in the order of the plan
unfoldable pub honest_values : ℕ → ℕ → ℕ → ℕ → List ℕ → List ℕ
honest_values seals width position price bids =
    let winner = position - 1 in
    after_selection seals width winner price
    (after_prices seals width winner price
    (after_wins seals width winner (after_bids seals width (bids ++ bids))))
