-- The circuit of a board: it is a plan, and how many wires and rows it has.
use Rattle.std.proofs.Common.{◌≡◌, ℕ, ◌-◌, List, length, Option, Some, None, refl, ap, sym, ◌∙◌}
use Rattle.vk_plan.specs.Plans.{IsPlan, PlanValue}
use Rattle.vk_vickrey.specs.declared.sales.Sale.{Sale}
use Rattle.vk_vickrey.specs.declared.sales.Sale.TheVariants.{Sold}
use Rattle.vk_vickrey.specs.Sales.{sale_at}
use Rattle.vk_vickrey.specs.declared.board_plan.BoardPlan.{BoardPlan}
use Rattle.vk_vickrey.specs.BoardPlans.{BoardNumbers, board_numbers, board_plan, board_wire_count, board_row_count, numbers_of}
use Rattle.vk_vickrey.specs.BoardLaws.{board_inputs, board_is_plan, board_rows, board_wires, of_plans}
use Rattle.vk_board.specs.declared.board.SealLines.{SealLines}
use Rattle.vk_board.specs.declared.front.Front.{Front}
use Rattle.vk_board.specs.declared.board.Head.{Head}
use Rattle.vk_board.specs.Fronts.{IsFront, IsPlaced}
use Rattle.vk_judge.specs.Statement.{IsStatement}
use Rattle.vk_judge.specs.Behind.{later_wires}
use Rattle.vk_verifier.specs.Verdicts.{numbers_in, plan_of, statement_of}
use Rattle.vk_verifier.specs.Acceptance.{head_numbers, shape_of}
use Rattle.vk_verifier.proofs.Fronts.{front_case}

is_plan : (front : Front) → IsFront front → IsPlan (plan_of front)
is_plan front is = of_plans (λ n. IsPlan (board_plan n)) board_is_plan (numbers_in front)
    (front_case front is)

inputs_are : (front : Front) → IsFront front → (plan_of front).inputs ≡ front.head.seals
inputs_are front is = of_plans (λ n. (board_plan n).inputs ≡ n.seals) board_inputs
    (numbers_in front) (front_case front is)

-- what the lanes of a board are to show
pub statement_right : (front : Front) → IsFront front → IsStatement (statement_of front)
statement_right front is = record {
  id = is.head.id;
  count = is.head.size.lanes;
  seals = is.seals.each;
  inputs = inputs_are front is ∙ sym is.seals.count;
  plan = is_plan front is;
}

abbrev numbers_by : Head → Sale → BoardNumbers
numbers_by head = board_numbers head.version head.seals head.width head.reserve

abbrev numbers_sold : Head → ℕ → BoardNumbers
numbers_sold head place = numbers_by head (Sold place head.price)

-- a count that is the same at each place is told by the seat
by_seat : (count : Sale → ℕ) (price : ℕ) (seals : List SealLines) (winner position : Option ℕ)
    → IsPlaced seals winner position
    → ((place other : ℕ) → count (Sold place price) ≡ count (Sold other price))
    → count (sale_at position price) ≡ count (sale_at winner price)
by_seat count price seals (Some seat) (Some position) placed same = same position seat
by_seat count price seals (Some seat) None placed same = absurd placed
by_seat count price seals None (Some position) placed same = absurd placed
by_seat count price seals None None placed same = refl

-- what the numbers of a circuit tell of it, and it is the same at each place, the head tells
by_head : (count : PlanValue → ℕ) (told : BoardNumbers → ℕ)
    → ((plan : BoardPlan) → count (board_plan (numbers_of plan)) ≡ told (numbers_of plan))
    → (front : Front) → IsFront front
    → ((place other : ℕ) → told (numbers_sold front.head place)
    ≡ told (numbers_sold front.head other))
    → count (plan_of front) ≡ told (head_numbers front.head)
by_head count told law front is same =
    of_plans (λ n. count (board_plan n) ≡ told n) law (numbers_in front) (front_case front is)
    ∙ by_seat (λ sale. told (numbers_by front.head sale)) front.head.price front.seals
    front.head.winner front.position is.winner same

all_wires : (front : Front) → IsFront front
    → length (plan_of front).kinds ≡ board_wire_count (head_numbers front.head)
all_wires front is =
    by_head (λ plan. length plan.kinds) board_wire_count board_wires front is
    (λ place other. refl)

-- the shape of its lanes
pub wires_are : (front : Front) → IsFront front
    → later_wires (plan_of front) ≡ (shape_of front.head).wires
wires_are front is =
    ap (λ n. n - (plan_of front).inputs) (all_wires front is)
    ∙ ap (λ n. board_wire_count (head_numbers front.head) - n) (inputs_are front is)

pub rows_are : (front : Front) → IsFront front
    → length (plan_of front).rows ≡ (shape_of front.head).rows
rows_are front is =
    by_head (λ plan. length plan.rows) board_row_count board_rows front is (λ place other. refl)
