-- Reading a board stops at its fault line. What stands behind a head is proved for every head: a
-- crate with a head of its own shows that reading it follows its table to `behind_head`, line by
-- line with `head_line_then`, as `head_follows` does here, and takes all that stands behind it from
-- `behind_ends`.
use Rattle.std.proofs.Common.{◌≡◌, ℕ, zero, suc, ◌+◌, ◌-◌, ◌^◌, ◌==◌, Bool, true, false, if◌then◌else◌, List, [], ◌∷◌, ◌++◌, length, codes, Option, option_map, Result, Ok, refl, arith, length-append, subst}
use Rattle.std.specs.Result.{result_err}
use Rattle.vk_residue.specs.Steps.{◌>>=◌}
use Rattle.vk_lines.specs.Lines.{Rest, line_by}
use Rattle.vk_lines.specs.Tokens.{number_line}
use Rattle.vk_lines.specs.Forms.{Table, Follows, FindsFaults, fault_line, many_at, whole}
use Rattle.vk_lines.proofs.Faults.{line_follows, many_follows, follows_then, follows_done, ends_then, end_ends, ends_done, fault_line_is}
use Rattle.vk_board.specs.declared.board.Head.{Head}
use Rattle.vk_board.specs.declared.board.SealLines.{SealLines}
use Rattle.vk_board.specs.declared.board.LaneLines.{LaneLines}
use Rattle.vk_board.specs.Values.{head_with, Shape, Frame, frame_of}
use Rattle.vk_board.specs.Reading.{com_line, posted_line, seats_of, reserve_at, head_at, seal_at, seal_lines_at, lane_at, lane_lines_at, behind_at, board_at}
use Rattle.vk_board.specs.Tables.{InHead, Seal, Lane, Last, Over, BoardPlace, lane_place, row_place, wire_place, seal_place, input_place, behind_head, HeadTable, sealed_table}
use Rattle.vk_board.specs.Tables.{Heading, Auction, Width, Lanes, Seals, Reserve, Winner, Price, HeadPlace, head_table, board_table}
use Rattle.vk_board.proofs.Seats.{seats_more}
use Rattle.vk_board.proofs.Forms.{seal_with, lane_with}
use Rattle.vk_board.proofs.Boards.{board_with}

module _ {H : Type 0} (head : HeadTable H) where
  abbrev table : Table (BoardPlace H)
  table = sealed_table head

  -- a line of the head, and what is read behind it
  pub head_line_then : {X Z : Type 0} (place : H) (parse : List ℕ → Option X)
      (between : X → BoardPlace H)
      {read : X → Rest → Result (Z × Rest) ℕ} {after : Z → BoardPlace H}
      → ((text : List ℕ) → head.next place text ≡ option_map between (parse text))
      → ((x : X) → Follows table (between x) (read x) after)
      → Follows table (InHead place) (λ rest. line_by parse rest >>= λ p. read p.0 p.1) after
  head_line_then place parse between next later =
      follows_then table (InHead place) (line_follows table (InHead place) parse between next refl)
      later

  -- ---- behind the head

  -- so many lines of a kind, where each place is one line before the next
  lines_follow : {X : Type 0} (parse : List ℕ → Option X) (place : ℕ → BoardPlace H)
      → ((left : ℕ) (text : List ℕ)
      → table.next (place (suc left)) text ≡ option_map (λ _. place left) (parse text))
      → ((left : ℕ) → table.over (place (suc left)) ≡ false)
      → (count : ℕ)
      → Follows table (place count) (many_at count (λ _. line_by parse)) (λ _. place zero)
  lines_follow parse place next inside count =
      many_follows table (λ left before. place left) (λ _. line_by parse)
      (λ left before. line_follows table (place (suc left)) parse (λ _. place left) (next left)
      (inside left))
      count []

  module _ (frame : Frame) where
    inputs_follow : (more : ℕ) (seats : List ℕ) (count : ℕ)
        → Follows table (input_place frame more seats count)
        (many_at count (λ _. line_by (com_line (codes "x"))))
        (λ _. seal_place frame more seats)
    inputs_follow more seats count =
        lines_follow (com_line (codes "x")) (input_place frame more seats) (λ left text. refl)
        (λ left. refl) count

    seal_done : (more : ℕ) (before : List SealLines) (seal : SealLines)
        → Follows table (seal_place frame more (seats_of before ++ seal.seat ∷ []))
        (λ rest. Ok (seal, rest))
        (λ s. seal_place frame more (seats_of (before ++ s ∷ [])))
    seal_done more before seal =
        let after : SealLines → BoardPlace H =
        λ s. seal_place frame more (seats_of (before ++ s ∷ [])) in
        let P : List ℕ → Type 0 =
        λ seats. Follows table (seal_place frame more seats) (λ rest. Ok (seal, rest)) after in
        subst P (seats_more before seal) (follows_done table after seal)

    seal_follows : (more : ℕ) (before : List SealLines)
        → Follows table (Seal frame more (seats_of before)) (seal_at frame.lanes before)
        (λ seal. seal_place frame more (seats_of (before ++ seal ∷ [])))
    unfolding seal_at
    seal_follows more before =
        let seats : List ℕ = seats_of before in
        let inputs : ℕ → BoardPlace H =
        λ seat. input_place frame more (seats ++ seat ∷ []) frame.lanes in
        follows_then table (Seal frame more seats)
        (line_follows table (Seal frame more seats) _ inputs (λ text. refl) refl) (λ seat.
        follows_then table (inputs seat) (inputs_follow more (seats ++ seat ∷ []) frame.lanes)
        (λ coms.
        seal_done more before (seal_with seat coms)))

    pub seals_follow : Follows table (behind_head frame) (seal_lines_at frame.seals frame.lanes)
        (λ _. lane_place frame 1 frame.lanes)
    seals_follow =
        many_follows table (λ left before. seal_place frame left (seats_of before))
        (seal_at frame.lanes)
        seal_follows frame.seals []

    rows_follow : (lane more count : ℕ)
        → Follows table (row_place frame lane more count) (many_at count (λ _. line_by posted_line))
        (λ _. lane_place frame (lane + 1) more)
    rows_follow lane more count =
        lines_follow posted_line (row_place frame lane more) (λ left text. refl) (λ left. refl)
        count

    wires_follow : (lane more count : ℕ)
        → Follows table (wire_place frame lane more count)
        (many_at count (λ _. line_by (com_line (codes "w"))))
        (λ _. row_place frame lane more frame.shape.rows)
    wires_follow lane more count =
        lines_follow (com_line (codes "w")) (wire_place frame lane more) (λ left text. refl)
        (λ left. refl) count

    lane_done : (more : ℕ) (before : List LaneLines) (lines : LaneLines)
        → Follows table (lane_place frame (length before + 1 + 1) more) (λ rest. Ok (lines, rest))
        (λ l. lane_place frame (length (before ++ l ∷ []) + 1) more)
    lane_done more before lines =
        let after : LaneLines → BoardPlace H =
        λ l. lane_place frame (length (before ++ l ∷ []) + 1) more in
        let P : ℕ → Type 0 = λ lane. Follows table (lane_place frame lane more)
        (λ rest. Ok (lines, rest)) after in
        let number : length (before ++ lines ∷ []) + 1 ≡ length before + 1 + 1 =
        omega (arith, length-append before (lines ∷ [])) in
        subst P number (follows_done table after lines)

    lane_follows : (more : ℕ) (before : List LaneLines)
        → Follows table (Lane frame (length before + 1) more)
        (lane_at (length before + 1) frame.shape.wires frame.shape.rows)
        (λ lines. lane_place frame (length (before ++ lines ∷ []) + 1) more)
    unfolding lane_at
    lane_follows more before =
        let lane : ℕ = length before + 1 in
        let wires : BoardPlace H = wire_place frame lane more frame.shape.wires in
        let rows : BoardPlace H = row_place frame lane more frame.shape.rows in
        follows_then table (Lane frame lane more)
        (line_follows table (Lane frame lane more) _ (λ _. wires) (λ text. refl) refl)
        (λ number.
        follows_then table wires (wires_follow lane more frame.shape.wires) (λ coms.
        follows_then table rows (rows_follow lane more frame.shape.rows) (λ posted.
        lane_done more before (lane_with coms posted))))

    pub lanes_follow : Follows table (lane_place frame 1 frame.lanes)
        (lane_lines_at frame.lanes frame.shape) (λ _. Last)
    lanes_follow =
        many_follows table (λ left before. lane_place frame (length before + 1) left)
        (λ before. lane_at (length before + 1) frame.shape.wires frame.shape.rows) lane_follows
        frame.lanes []

    -- the seals, the lanes and the end, from which a value is made
    pub behind_ends : {B : Type 0} (make : List SealLines → List LaneLines → B)
        → FindsFaults table (behind_head frame) (behind_at frame make)
    behind_ends make =
        ends_then table (behind_head frame) seals_follow (λ seals.
        ends_then table (lane_place frame 1 frame.lanes) lanes_follow (λ lanes.
        ends_done table Last (make seals lanes)
        (end_ends table Last Over (λ text. refl) refl (λ text. refl) refl)))

-- ---- a board

-- the line of the reserve, which version 2 has
reserve_follows : (shape : Head → Shape) (version : ℕ) (auction : List ℕ) (width lanes seals : ℕ)
    (second : Bool)
    → Follows (board_table shape)
    (if second then InHead (Reserve version auction width lanes seals)
    else InHead (Winner version auction width lanes seals 0))
    (λ rest. if second then line_by (number_line (codes "reserve") 0 (2 ^ 64 - 1)) rest
    else Ok (0, rest))
    (λ reserve. InHead (Winner version auction width lanes seals reserve))
reserve_follows shape version auction width lanes seals true =
    line_follows (board_table shape) (InHead (Reserve version auction width lanes seals)) _
    (λ reserve. InHead (Winner version auction width lanes seals reserve)) (λ text. refl) refl
reserve_follows shape version auction width lanes seals false =
    follows_done (board_table shape)
    (λ reserve. InHead (Winner version auction width lanes seals reserve)) 0

pub head_follows : (shape : Head → Shape)
    → Follows (board_table shape) (InHead Heading) head_at
    (λ head. behind_head (frame_of shape head))
unfolding head_at reserve_at
head_follows shape =
    let head = head_table shape in
    let after : Head → BoardPlace HeadPlace = λ h. behind_head (frame_of shape h) in
    head_line_then head Heading _ _ (λ text. refl) (λ version.
    head_line_then head (Auction version) _ _ (λ text. refl) (λ auction.
    head_line_then head (Width version auction) _ _ (λ text. refl) (λ width.
    head_line_then head (Lanes version auction width) _ _ (λ text. refl) (λ lanes.
    head_line_then head (Seals version auction width lanes) _ _ (λ text. refl) (λ seals.
    follows_then (board_table shape) _
    (reserve_follows shape version auction width lanes seals (version == 2)) (λ reserve.
    head_line_then head (Winner version auction width lanes seals reserve) _ _ (λ text. refl)
    (λ winner.
    head_line_then head (Price version auction width lanes seals reserve winner) _ _
    (λ text. refl) (λ price.
    follows_done (board_table shape) after
    (head_with version auction width lanes seals reserve winner price)))))))))

pub board_ends : (shape : Head → Shape)
    → FindsFaults (board_table shape) (InHead Heading) (board_at shape)
unfolding board_at
board_ends shape =
    ends_then (board_table shape) (InHead Heading) (head_follows shape)
    (λ head. behind_ends (head_table shape) (frame_of shape head) (board_with head))

pub board_fault : (shape : Head → Shape) (bytes : List ℕ)
    → fault_line (board_table shape) bytes ≡ result_err (whole (board_at shape) bytes)
board_fault shape bytes = fault_line_is (board_table shape) (board_at shape) (board_ends shape)
    bytes
