-- The outcome of bids, and their sale under a reserve, as functions of them: who wins, and at which
-- price.
use Rattle.std.specs.Prelude.{ℕ, ◌+◌, ◌==◌, if◌then◌else◌, nat_lt, max, List, [], ◌∷◌, ◌++◌, take, drop, Option, Some, None}
use Rattle.std.specs.List.{position_or_len}
use Rattle.vk_vickrey.specs.declared.outcomes.VickreyOutcome.{VickreyOutcome}
use Rattle.vk_vickrey.specs.declared.sales.Sale.{Sale}
use Rattle.vk_vickrey.specs.declared.sales.Sale.TheVariants.{Sold, Unsold}

-- the greatest of some numbers, 0 where there is none
abbrev pub greatest : List ℕ → ℕ
greatest [] = 0
greatest (number ∷ numbers) = max number (greatest numbers)

-- the place, counted from 0, of the first of the greatest
abbrev pub place_of_greatest : List ℕ → ℕ
place_of_greatest numbers = position_or_len (λ number. number == greatest numbers) numbers

-- all but the one at that place
abbrev pub all_but : ℕ → List ℕ → List ℕ
all_but place numbers = take place numbers ++ drop (place + 1) numbers

-- the first of the greatest bids wins, at the greatest of the others
unfoldable pub outcome_of : List ℕ → VickreyOutcome
outcome_of bids = record {
  position = place_of_greatest bids + 1;
  price = greatest (all_but (place_of_greatest bids) bids);
}

-- Nothing is sold where the greatest bid is below the reserve. Else the same bid wins, at the
-- greatest of the others, or at the reserve where that is more.
unfoldable pub sale_of : List ℕ → ℕ → Sale
sale_of bids reserve =
    if nat_lt (greatest bids) reserve then Unsold
    else Sold (outcome_of bids).position (max (outcome_of bids).price reserve)

-- ---- what a sale tells

-- the position that wins, none where nothing is sold
abbrev pub position_in : Sale → Option ℕ
position_in (Sold position price) = Some position
position_in Unsold = None

-- the price, 0 where nothing is sold
abbrev pub price_in : Sale → ℕ
price_in (Sold position price) = price
price_in Unsold = 0
