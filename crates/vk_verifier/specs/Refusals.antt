-- Why a board, a challenge and a reply are refused, in the words of their texts and values.
use Rattle.std.specs.Prelude.{◌≡◌, ◌↔◌, ℕ, List, Some}
use Rattle.vk_lines.specs.Forms.{fault_line}
use Rattle.vk_board.specs.declared.front.Front.{Front}
use Rattle.vk_board.specs.declared.board.Head.{Head}
use Rattle.vk_board.specs.declared.board.SealLines.{SealLines}
use Rattle.vk_board.specs.Tables.{board_table}
use Rattle.vk_board.specs.Fronts.{Begins, PriceFails, WinnerFails}
use Rattle.vk_judge.specs.FileForms.{Form, JudgedHolds}
use Rattle.vk_verifier.specs.declared.answers.BoardRefusal.{BoardRefusal}
use Rattle.vk_verifier.specs.declared.answers.BoardRefusal.TheVariants.{Price, Winner}
use Rattle.vk_verifier.specs.declared.answers.BoardVerdict.{BoardVerdict}
use Rattle.vk_verifier.specs.declared.boards.PlacedHead.{PlacedHead}
use Rattle.vk_verifier.specs.Verdicts.{board_front_at, judged_of, placed_head, verdict_of}
use Rattle.vk_verifier.specs.Acceptance.{board_fronts, shape_of}

-- which line of a board is its fault line
abbrev pub IsBoardLine : List ℕ → ℕ → Type 0
IsBoardLine board_file line = fault_line (board_table shape_of) board_file ≡ Some line

-- that is its fault line, and it has no head and seals
abbrev pub BoardStops : List ℕ → ℕ → Type 0
BoardStops board_file line = IsBoardLine board_file line
    × ((head : Head) (seals : List SealLines) → ¬ Begins board_file head seals)

-- it has a head and seals, and its price or its winner may not stand
abbrev pub BoardRefuses : BoardRefusal → List ℕ → Type 0
BoardRefuses Price board_file = PriceFails board_file
BoardRefuses Winner board_file = WinnerFails board_file

-- the form of boards
abbrev pub board_form : Form Front PlacedHead BoardRefusal
board_form = record {
  fronts = board_fronts;
  front_at = board_front_at;
  head = placed_head;
  Refuses = BoardRefuses;
  Stops = BoardStops;
  IsLine = IsBoardLine;
}

-- the verdict holds of the files
abbrev pub VerdictHolds : BoardVerdict → List ℕ → List ℕ → List ℕ → Type 0
VerdictHolds verdict = JudgedHolds board_form (judged_of verdict)

-- a verdict is given exactly where it holds
abbrev pub VerdictsAreExact : Type 0
VerdictsAreExact = (verdict : BoardVerdict) (board challenge reply : List ℕ)
    → (verdict_of board challenge reply ≡ verdict) ↔ VerdictHolds verdict board challenge reply
