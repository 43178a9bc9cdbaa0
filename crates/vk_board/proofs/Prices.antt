-- Which price may stand, as a test and as a fact.
use Rattle.std.proofs.Common.{◌≡◌, ◌≢◌, ℕ, ◌≤◌, ◌^◌, ◌==◌, ◌||◌, ◌&&◌, nat_le, nat_lt, not, Bool, true, Option, Some, None}
use Rattle.std.proofs.lemmas.Bool.{and_parts, and_from, ltb-true, lt-ltb}
use Rattle.std.proofs.lemmas.Bool.Decides.{nat_tests}
use Rattle.std.proofs.Common.{arith}
use Rattle.vk_board.specs.declared.board.Head.{Head}
use Rattle.vk_board.specs.Published.{price_stands_for, price_stands}
use Rattle.vk_board.specs.Fronts.{PriceStandsFor, PriceStands}

-- the price of what is sold, behind its limit
abbrev beside_reserve : Head → Bool
beside_reserve head = nat_le head.reserve head.price
    && (not (head.seals == 1) || head.price == head.reserve)

alone_shown : (seals price reserve : ℕ) → (not (seals == 1) || price == reserve) ≡ true → seals ≡ 1
    → price ≡ reserve
alone_shown seals price reserve test one = grind (arith, nat_tests)

alone_found : (seals price reserve : ℕ) → (seals ≡ 1 → price ≡ reserve)
    → (not (seals == 1) || price == reserve) ≡ true
alone_found seals price reserve alone = grind (arith, nat_tests)

least_shown : (reserve price : ℕ) → nat_le reserve price ≡ true → reserve ≤ price
least_shown reserve price test = grind (arith, nat_tests)

least_found : (reserve price : ℕ) → reserve ≤ price → nat_le reserve price ≡ true
least_found reserve price least = grind (arith, nat_tests)

unsold_shown : (reserve price : ℕ) → (not (reserve == 0) && price == 0) ≡ true
    → (reserve ≢ 0) × (price ≡ 0)
unsold_shown reserve price test = grind (arith, nat_tests)

unsold_found : (reserve price : ℕ) → reserve ≢ 0 → price ≡ 0
    → (not (reserve == 0) && price == 0) ≡ true
unsold_found reserve price some none = grind (arith, nat_tests)

for_shown : (head : Head) (winner : Option ℕ) → price_stands_for head winner ≡ true
    → PriceStandsFor head winner
for_shown head (Some seat) test =
    let parts = and_parts (nat_lt head.price (2 ^ head.width)) (beside_reserve head) test in
    let beside = and_parts (nat_le head.reserve head.price)
    (not (head.seals == 1) || head.price == head.reserve) parts.1 in
    record {
      within_width = ltb-true head.price (2 ^ head.width) parts.0;
      reserve_within_price = least_shown head.reserve head.price beside.0;
      alone = alone_shown head.seals head.price head.reserve beside.1;
    }
for_shown head None test = let both = unsold_shown head.reserve head.price test in
    record { some_reserve = both.0; no_price = both.1 }

for_found : (head : Head) (winner : Option ℕ) → PriceStandsFor head winner
    → price_stands_for head winner ≡ true
for_found head (Some seat) stands =
    and_from (nat_lt head.price (2 ^ head.width)) (beside_reserve head)
    (lt-ltb head.price (2 ^ head.width) stands.within_width)
    (and_from (nat_le head.reserve head.price) (not (head.seals == 1) || head.price == head.reserve)
    (least_found head.reserve head.price stands.reserve_within_price)
    (alone_found head.seals head.price head.reserve stands.alone))
for_found head None stands = unsold_found head.reserve head.price stands.some_reserve
    stands.no_price

pub price_shown : (head : Head) → price_stands head ≡ true → PriceStands head
price_shown head test =
    let parts = and_parts (nat_lt head.reserve (2 ^ head.width)) (price_stands_for head head.winner)
    test in
    record {
      reserve_within_width = ltb-true head.reserve (2 ^ head.width) parts.0;
      price = for_shown head head.winner parts.1;
    }

pub price_found : (head : Head) → PriceStands head → price_stands head ≡ true
price_found head stands = and_from (nat_lt head.reserve (2 ^ head.width))
    (price_stands_for head head.winner)
    (lt-ltb head.reserve (2 ^ head.width) stands.reserve_within_width)
    (for_found head head.winner stands.price)
