-- What a board publishes before its first lane is within the limits of its circuit.
use Rattle.std.proofs.Common.{◌≡◌, ℕ, List, Option, Some, None, inl, inr, ◌∙◌, arith}
use Rattle.std.proofs.lemmas.Bool.{cases_eq}
use Rattle.vk_board.specs.declared.board.Head.{Head}
use Rattle.vk_board.specs.declared.board.SealLines.{SealLines}
use Rattle.vk_board.specs.declared.front.Front.{Front}
use Rattle.vk_board.specs.Values.{IsHead, AreSeals, IsWinner}
use Rattle.vk_board.specs.Fronts.{IsFront, HasPlace, IsPlaced, PriceStandsFor, SoldPriceStands}
use Rattle.vk_vickrey.specs.Sales.{sale_at}
use Rattle.vk_vickrey.specs.ReservePlans.{IsReserveCase, IsSoldCase, IsSaleCase}
use Rattle.vk_vickrey.specs.BoardPlans.{IsBoardCase, IsFirstCase}
use Rattle.vk_verifier.specs.Verdicts.{numbers_in}

sold_case : (head : Head) (seals : List SealLines) (seat position : ℕ) → AreSeals head seals
    → SoldPriceStands head
    → HasPlace seals seat position
    → IsSoldCase head.seals head.width head.reserve position head.price
sold_case head seals seat position are price place = record {
  some_position = place.some;
  within_seals = omega (arith, place.within, are.count);
  within_width = price.within_width;
  reserve_within_price = price.reserve_within_price;
  alone = price.alone;
}

sale_case : (head : Head) (seals : List SealLines) (winner position : Option ℕ)
    → AreSeals head seals
    → PriceStandsFor head winner → IsPlaced seals winner position
    → IsSaleCase head.seals head.width head.reserve (sale_at position head.price)
sale_case head seals (Some seat) (Some position) are price place =
    sold_case head seals seat position are price place
sale_case head seals (Some seat) None are price place = absurd place
sale_case head seals None (Some position) are price place = absurd place
sale_case head seals None None are price place = omega (arith, price.some_reserve)

reserve_case : (front : Front) → IsFront front
    → IsReserveCase front.head.seals front.head.width front.head.reserve
    (sale_at front.position front.head.price)
reserve_case front is = record {
  some_seals = is.head.some_seal;
  most_seals = is.head.few_seals;
  wide = is.head.size.width;
  reserve_within_width = is.price.reserve_within_width;
  sale_case = sale_case front.head front.seals front.head.winner front.position is.seals
      is.price.price is.winner;
}

-- version 1 has the reserve 0, and a winner
first_case : (head : Head) (seals : List SealLines) (winner position : Option ℕ) → IsHead head
    → AreSeals head seals
    → IsWinner head.version winner → PriceStandsFor head winner → IsPlaced seals winner position
    → head.version ≡ 1
    → IsFirstCase head.seals head.width head.reserve (sale_at position head.price)
first_case head seals (Some seat) (Some position) right are is_winner price place one =
    let none : head.reserve ≡ 0 = right.reserve.unnamed (omega (arith, one)) in
    let sold = sold_case head seals seat position are price place in (
      none,
      record {
        some_seals = right.some_seal;
        most_seals = right.few_seals;
        wide = right.size.width;
        some_position = sold.some_position;
        within_seals = sold.within_seals;
        within_width = sold.within_width;
        alone = λ alone. sold.alone alone ∙ none;
      },
    )
first_case head seals (Some seat) None right are is_winner price place one = absurd place
first_case head seals None (Some position) right are is_winner price place one = absurd place
first_case head seals None None right are is_winner price place one =
    absurd (omega (arith, one, is_winner))

pub front_case : (front : Front) → IsFront front → IsBoardCase (numbers_in front)
front_case front is = elim (cases_eq front.head.version 1) [
  | inl one ↦ inl (
    one,
    first_case front.head front.seals front.head.winner front.position is.head is.seals
        is.head.winner is.price.price is.winner one,
  )
  | inr not_one ↦ inr (
    omega (arith, not_one, is.head.version.least, is.head.version.most),
    reserve_case front is,
  )
]
