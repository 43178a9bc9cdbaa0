-- When a reply to a board is accepted, by whole texts.
use Rattle.std.specs.Prelude.{◌≡◌, ◌↔◌, ℕ, ◌-◌, List}
use Rattle.vk_board.specs.declared.board.Head.{Head}
use Rattle.vk_board.specs.declared.front.Front.{Front}
use Rattle.vk_board.specs.Values.{Shape}
use Rattle.vk_board.specs.Fronts.{IsFront, front_text}
use Rattle.vk_vickrey.specs.Sales.{sale_at}
use Rattle.vk_vickrey.specs.BoardPlans.{BoardNumbers, board_numbers, board_wire_count, board_row_count}
use Rattle.vk_verifier.specs.declared.answers.BoardVerdict.TheVariants.{Accepted}
use Rattle.vk_verifier.specs.Verdicts.{statement_of, verdict_of}
use Rattle.vk_judge.specs.FileForms.{Fronts}
use Rattle.vk_judge.specs.FileForms as forms

-- what the counts are told by. They are the same wherever the winner's seal stands, so the seat
-- stands for its place
abbrev pub head_numbers : Head → BoardNumbers
head_numbers head = board_numbers head.version head.seals head.width head.reserve
    (sale_at head.winner head.price)

-- how many wires after the inputs, and how many rows, a lane of the auction has
abbrev pub shape_of : Head → Shape
shape_of head = record {
  wires = board_wire_count (head_numbers head) - head.seals;
  rows = board_row_count (head_numbers head);
}

-- a front of a board may stand by its price and winner
abbrev pub board_fronts : Fronts Front
board_fronts = record { IsRight = IsFront; statement = statement_of; text = front_text }

-- the board has a front whose price and winner may stand, and behind it the reply is accepted for
-- the challenge
abbrev pub Accepts : List ℕ → List ℕ → List ℕ → Type 0
Accepts = forms.Accepts board_fronts

-- the verdict is that there is no fault exactly where a reply is accepted
abbrev pub AcceptedExactly : Type 0
AcceptedExactly = (board challenge reply : List ℕ) → (verdict_of board challenge reply ≡ Accepted)
    ↔ Accepts board challenge reply
