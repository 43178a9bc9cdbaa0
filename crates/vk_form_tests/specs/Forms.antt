-- The form of a sum file: its head, its frame, and the table of its places. What stands behind the
-- head is what stands behind any head.
use Rattle.std.specs.Prelude.{◌≡◌, ℕ, ◌≤◌, List, [], ◌∷◌, ◌++◌, codes, decimal, length, Option, option_map, Result, Ok}
use Rattle.std.specs.List.{AllByRecursion}
use Rattle.vk_residue.specs.Steps.{◌>>=◌}
use Rattle.vk_lines.specs.Lines.{Rest, line_by}
use Rattle.vk_lines.specs.Forms.{Table, line, spaced}
use Rattle.vk_lines.specs.Tokens.{hex_text, id_line, number_line, word_of}
use Rattle.vk_board.specs.declared.board.SealLines.{SealLines}
use Rattle.vk_board.specs.declared.board.LaneLines.{LaneLines}
use Rattle.vk_board.specs.Values.{AreBytes, AreSealsOf, Frame, IsLaneLines}
use Rattle.vk_board.specs.Texts.{behind_text}
use Rattle.vk_board.specs.Reading.{behind_at}
use Rattle.vk_board.specs.Tables.{HeadTable, InHead, BoardPlace, behind_head, sealed_table}
use Rattle.vk_judge.specs.Behind.{later_wires}
use Rattle.vk_form_tests.specs.declared.form.SumHead.{SumHead}
use Rattle.vk_form_tests.specs.Sums.{sum_plan}

-- the id of an auction, and what its three numbers come to
pub record IsSumHead (head : SumHead) : Type 0 where
  pub id : AreBytes 16 head.auction
  pub most : head.total ≤ 21

abbrev pub head_with : List ℕ → ℕ → SumHead
head_with auction total = record { auction = auction; total = total }

unfoldable pub sum_head_text : SumHead → List ℕ
sum_head_text head =
    line (codes "sum-file 1")
    ++ (line (spaced (codes "auction" ∷ hex_text head.auction ∷ []))
    ++ line (spaced (codes "sum" ∷ decimal head.total ∷ [])))

unfoldable pub sum_head_at : Rest → Result (SumHead × Rest) ℕ
sum_head_at rest =
    line_by (word_of (codes "sum-file 1")) rest >>= λ heading.
    line_by (id_line (codes "auction")) heading.1 >>= λ auction.
    line_by (number_line (codes "sum") 0 21) auction.1 >>= λ total.
    Ok (head_with auction.0 total.0, total.1)

-- three seals of two lanes, and each lane is one of the head's circuit
abbrev pub sum_frame : SumHead → Frame
sum_frame head =
    let plan = sum_plan head.total in
    record {
      seals = 3;
      lanes = 2;
      shape = record { wires = later_wires plan; rows = length plan.rows };
    }

-- ---- whole files

pub record SumFile : Type 0 where
  pub head : SumHead
  pub seals : List SealLines
  pub lanes : List LaneLines

abbrev pub file_with : SumHead → List SealLines → List LaneLines → SumFile
file_with head seals lanes = record { head = head; seals = seals; lanes = lanes }

pub record IsSumFile (file : SumFile) : Type 0 where
  pub head : IsSumHead file.head
  pub seals : AreSealsOf 3 2 file.seals
  pub count : length file.lanes ≡ 2
  pub lanes : AllByRecursion (IsLaneLines (sum_frame file.head).shape.wires
      (sum_frame file.head).shape.rows) file.lanes

unfoldable pub sum_file_text : SumFile → List ℕ
sum_file_text file = sum_head_text file.head ++ behind_text file.seals file.lanes

unfoldable pub sum_file_at : Rest → Result (SumFile × Rest) ℕ
sum_file_at rest = sum_head_at rest >>= λ head. behind_at (sum_frame head.0) (file_with head.0)
    head.1

-- ---- the places of a file

-- those of the head, each with its fields so far
pub data SumPlace : Type 0 where
  Heading : SumPlace
  Auction : SumPlace
  Total : List ℕ → SumPlace

abbrev pub sum_next : SumPlace → List ℕ → Option (BoardPlace SumPlace)
sum_next Heading text = option_map (λ _. InHead Auction) (word_of (codes "sum-file 1") text)
sum_next Auction text = option_map (λ auction. InHead (Total auction))
    (id_line (codes "auction") text)
sum_next (Total auction) text =
    option_map (λ total. behind_head (sum_frame (head_with auction total)))
    (number_line (codes "sum") 0 21 text)

abbrev pub sum_head_table : HeadTable SumPlace
sum_head_table = record { first = Heading; next = sum_next }

abbrev pub sum_table : Table (BoardPlace SumPlace)
sum_table = sealed_table sum_head_table
