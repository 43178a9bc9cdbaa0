-- Boards are read from their texts alone. A crate with a head of its own takes what stands behind
-- it from `behind_is_whole`, as `board_is_whole` does here.
use Rattle.std.proofs.Common.{◌≡◌, ℕ, ◌≤◌, List, length, refl, ap, ◌∙◌}
use Rattle.std.specs.List.{AllByRecursion}
use Rattle.vk_lines.specs.Forms.{IsWhole}
use Rattle.vk_lines.proofs.Parts.{whole_then, whole_end, whole_same}
use Rattle.vk_lines.proofs.Numbered.{numbered_all}
use Rattle.vk_board.specs.declared.board.Head.{Head}
use Rattle.vk_board.specs.declared.board.SealLines.{SealLines}
use Rattle.vk_board.specs.declared.board.LaneLines.{LaneLines}
use Rattle.vk_board.specs.Values.{AreSealsOf, IsLaneLines, IsBoard, Board, Shape, Frame, frame_of}
use Rattle.vk_board.specs.Texts.{behind_text, board_text}
use Rattle.vk_board.specs.Reading.{behind_at, board_at}
use Rattle.vk_board.proofs.Forms.{head_is_part, seal_lines_are_part, lane_is_part}

-- ---- behind a head

abbrev AreLanes : ℕ → Shape → List LaneLines → Type 0
AreLanes count shape lanes = (length lanes ≡ count)
    × AllByRecursion (IsLaneLines shape.wires shape.rows) lanes

-- a value that is made of the seals and the lanes, and shows both
module _ {B : Type 0} (frame : Frame) (make : List SealLines → List LaneLines → B)
    (seals_of : B → List SealLines) (lanes_of : B → List LaneLines) where
  abbrev pub BehindOf : B → Type 0
  BehindOf value = AreSealsOf frame.seals frame.lanes (seals_of value)
      × (AreLanes frame.lanes frame.shape (lanes_of value)
      × (value ≡ make (seals_of value) (lanes_of value)))

  -- what is made shows what it is made of
  abbrev pub ShowsSeals : Type 0
  ShowsSeals = (seals : List SealLines) (lanes : List LaneLines)
      → seals_of (make seals lanes) ≡ seals

  abbrev pub ShowsLanes : Type 0
  ShowsLanes = (seals : List SealLines) (lanes : List LaneLines)
      → lanes_of (make seals lanes) ≡ lanes

  pub behind_is_whole : frame.lanes ≤ 64 → ShowsSeals → ShowsLanes
      → IsWhole BehindOf (λ value. behind_text (seals_of value) (lanes_of value))
      (behind_at frame make)
  behind_is_whole few shows_seals shows_lanes =
      let shape = frame.shape in
      whole_then seals_of (seal_lines_are_part frame.seals frame.lanes) (λ seals _.
      whole_then lanes_of
      (numbered_all 64 frame.lanes few (λ lane within. lane_is_part lane shape.wires shape.rows
      within))
      (λ lanes _. whole_end (make seals lanes))
      (λ lanes value same. ap lanes_of same ∙ shows_lanes seals lanes))
      (λ seals value is. ap seals_of is.1 ∙ shows_seals seals (lanes_of value))

-- ---- a board

abbrev pub board_with : Head → List SealLines → List LaneLines → Board
board_with head seals lanes = record { head = head; seals = seals; lanes = lanes }

pub board_is_whole : (shape : Head → Shape) → IsWhole (IsBoard shape) board_text (board_at shape)
unfolding board_text board_at
board_is_whole shape =
    whole_same (
    whole_then (λ board. board.head) head_is_part
    (λ head right. behind_is_whole (frame_of shape head) (board_with head) (λ b. b.seals)
    (λ b. b.lanes)
    right.size.lanes.most (λ seals lanes. refl) (λ seals lanes. refl))
    (λ head board is. ap (λ b. b.head) is.1.1)
    )
    (λ board is. record { head = is.0; seals = is.1.0; count = is.1.1.0.0; lanes = is.1.1.0.1 })
    (λ board is. (is.head, (is.seals, ((is.count, is.lanes), refl))))
    (λ board. refl)
