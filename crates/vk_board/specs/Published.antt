-- What is published of an outcome: which price may stand on a board, and the place of the winner's
-- seal.
use Rattle.std.specs.Prelude.{ℕ, ◌+◌, ◌^◌, ◌==◌, ◌&&◌, ◌||◌, nat_lt, nat_le, not, Bool, if◌then◌else◌, List, [], ◌∷◌, Option, Some, None, option_map}
use Rattle.vk_board.specs.declared.board.Head.{Head}
use Rattle.vk_board.specs.declared.board.SealLines.{SealLines}

-- something may be sold at the price: it is below the limit and not below the reserve, and is the
-- reserve where there is one seal
abbrev pub sold_price_stands : Head → ℕ → Bool
sold_price_stands head limit =
    nat_lt head.price limit && (nat_le head.reserve head.price
    && (not (head.seals == 1) || head.price == head.reserve))

-- by the winner: where there is none, there is a reserve and no price
abbrev pub price_stands_for : Head → Option ℕ → Bool
price_stands_for head (Some seat) = sold_price_stands head (2 ^ head.width)
price_stands_for head None = not (head.reserve == 0) && head.price == 0

-- the reserve is below 2^width, and the price may stand
abbrev pub price_stands : Head → Bool
price_stands head = nat_lt head.reserve (2 ^ head.width) && price_stands_for head head.winner

-- the place of the first seal with that seat, where the first of these has that place
abbrev pub position_from : ℕ → ℕ → List SealLines → Option ℕ
position_from seat place [] = None
position_from seat place (seal ∷ seals) = if seal.seat == seat then Some place
    else position_from seat (place + 1) seals

-- the same, counted from 1
abbrev pub position_of : ℕ → List SealLines → Option ℕ
position_of seat seals = position_from seat 1 seals

-- the winner's place; no place where there is no winner, and None where no seal has the winner's
-- seat
abbrev pub placed : Option ℕ → List SealLines → Option (Option ℕ)
placed (Some seat) seals = option_map Some (position_of seat seals)
placed None seals = Some None
