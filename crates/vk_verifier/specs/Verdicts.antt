-- The verdict on a board, a challenge and a reply: the first test that fails.
use Rattle.std.specs.Prelude.{◌≡◌, ℕ, List, Result, Ok, Err}
use Rattle.vk_residue.specs.Steps.{◌>>=◌}
use Rattle.vk_io.specs.Files.{Files}
use Rattle.vk_lines.specs.Lines.{Rest}
use Rattle.vk_plan.specs.Plans.{PlanValue}
use Rattle.vk_board.specs.declared.front.Front.{Front}
use Rattle.vk_board.specs.Fronts.{FrontFault, IsFront, front_at}
use Rattle.vk_board.specs.Fronts as fronts
use Rattle.vk_vickrey.specs.Sales.{sale_at}
use Rattle.vk_vickrey.specs.BoardPlans.{BoardNumbers, board_numbers, board_plan}
use Rattle.vk_judge.specs.declared.answers.Part.TheVariants as part
use Rattle.vk_judge.specs.declared.answers.Fault.{Fault}
use Rattle.vk_judge.specs.declared.answers.Fault.TheVariants as behind
use Rattle.vk_judge.specs.declared.answers.VErr.{VErr}
use Rattle.vk_judge.specs.declared.opened.Opened.{Opened}
use Rattle.vk_judge.specs.declared.opened.Refusal.{Refusal}
use Rattle.vk_judge.specs.declared.opened.Refusal.TheVariants as refusal
use Rattle.vk_verifier.specs.declared.answers.BoardRefusal.{BoardRefusal}
use Rattle.vk_verifier.specs.declared.answers.BoardRefusal.TheVariants as refuses
use Rattle.vk_verifier.specs.declared.answers.BoardVerdict.{BoardVerdict}
use Rattle.vk_verifier.specs.declared.answers.BoardVerdict.TheVariants.{Accepted, Malformed, Price, Winner, Lanes, Wire, Row}
use Rattle.vk_verifier.specs.declared.boards.PlacedHead.{PlacedHead}
use Rattle.vk_judge.specs.Statement.{StatementValue}
use Rattle.vk_judge.specs.Begun.{of_attempt}
use Rattle.vk_judge.specs.Opened.{file_judged, judged_in}

-- ---- the front

-- why a board is refused that has this fault before its first lane
abbrev pub front_refusal : FrontFault → Refusal BoardRefusal
front_refusal (fronts.Malformed line) = refusal.Fault (behind.Malformed part.Board line)
front_refusal fronts.Price = refusal.Front refuses.Price
front_refusal fronts.Winner = refusal.Front refuses.Winner

abbrev pub in_front : {X : Type 0} → Result X FrontFault → Result X (Refusal BoardRefusal)
in_front (Ok x) = Ok x
in_front (Err fault) = Err (front_refusal fault)

-- what the board publishes of its auction
abbrev pub numbers_in : Front → BoardNumbers
numbers_in front =
    board_numbers front.head.version front.head.seals front.head.width front.head.reserve
    (sale_at front.position front.head.price)

-- the circuit of the board
abbrev pub plan_of : Front → PlanValue
plan_of front = board_plan (numbers_in front)

-- what its lanes are to show
abbrev pub statement_of : Front → StatementValue
statement_of front = record {
  auction = front.head.auction;
  lanes = front.head.lanes;
  seals = front.seals;
  plan = plan_of front;
}

-- the head with the place of the winner's seal
abbrev pub placed_head : Front → PlacedHead
placed_head front = record { head = front.head; position = front.position }

-- what is read of a board before its first lane
abbrev pub opened_board : Front → Opened PlacedHead
opened_board front = record { head = placed_head front; statement = statement_of front }

-- the front of a board that was opened
abbrev pub board_front : Opened PlacedHead → Front
board_front opened = record {
  head = opened.head.head;
  seals = opened.statement.seals;
  position = opened.head.position;
}

-- it may stand, and the lanes are to show what it says
pub record IsBoard (opened : Opened PlacedHead) : Type 0 where
  pub front : IsFront (board_front opened)
  pub is : opened.statement ≡ statement_of (board_front opened)

unfoldable pub board_front_at : Rest → Result (Opened PlacedHead × Rest) (Refusal BoardRefusal)
board_front_at rest = do
  front ← in_front (front_at rest)
  Ok (opened_board front.0, front.1)

-- ---- whole files

-- the verdict on a board with this fault behind its front
abbrev pub as_verdict : Fault → BoardVerdict
as_verdict (behind.Malformed file line) = Malformed file line
as_verdict behind.Lanes = Lanes
as_verdict (behind.Wire lane wire fault) = Wire lane wire fault
as_verdict (behind.Row lane row) = Row lane row

abbrev pub refused_verdict : Refusal BoardRefusal → BoardVerdict
refused_verdict (refusal.Front refuses.Price) = Price
refused_verdict (refusal.Front refuses.Winner) = Winner
refused_verdict (refusal.Fault fault) = as_verdict fault

-- the verdict by what judging comes to
abbrev pub verdict_by : Result Unit (Refusal BoardRefusal) → BoardVerdict
verdict_by (Ok done) = Accepted
verdict_by (Err refusal) = refused_verdict refusal

-- what judging came to, where this is the verdict
abbrev pub judged_of : BoardVerdict → Result Unit (Refusal BoardRefusal)
judged_of Accepted = Ok tt
judged_of (Malformed file line) = Err (refusal.Fault (behind.Malformed file line))
judged_of Price = Err (refusal.Front refuses.Price)
judged_of Winner = Err (refusal.Front refuses.Winner)
judged_of Lanes = Err (refusal.Fault behind.Lanes)
judged_of (Wire lane wire fault) = Err (refusal.Fault (behind.Wire lane wire fault))
judged_of (Row lane row) = Err (refusal.Fault (behind.Row lane row))

-- the verdict on the bytes of a board, a challenge and a reply
abbrev pub verdict_of : List ℕ → List ℕ → List ℕ → BoardVerdict
verdict_of board challenge reply = verdict_by (judged_in board_front_at board challenge reply)

-- on files from where they are read on
abbrev pub verdict_at : Rest → Rest → Rest → BoardVerdict
verdict_at board challenge reply = verdict_by (file_judged board_front_at board challenge reply)

-- on the named files
unfoldable pub verdict_on : Files → List ℕ → List ℕ → List ℕ → Result BoardVerdict VErr
verdict_on = of_attempt verdict_at
