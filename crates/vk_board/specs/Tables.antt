-- What may stand next in a file of a head, seals and lanes, place by place. Boards are such files.
use Rattle.std.specs.Prelude.{ℕ, zero, suc, ◌+◌, ◌-◌, ◌^◌, ◌==◌, Bool, true, false, if◌then◌else◌, List, [], ◌∷◌, ◌++◌, codes, Option, None, option_map}
use Rattle.vk_lines.specs.Forms.{Table}
use Rattle.vk_lines.specs.Tokens.{word_of, number_line, id_line}
use Rattle.vk_board.specs.declared.board.Head.{Head}
use Rattle.vk_board.specs.Values.{head_with, Shape, Frame, frame_of}
use Rattle.vk_board.specs.Reading.{com_line, posted_line, seat_line, winner_line}

-- ---- behind a head

-- the places of a file, each named for the line that may stand there, with what the lines before
-- tell of those to come. The places of a head are its own. Among the seals: what the head told, how
-- many follow this one, the seats so far, and how many lines of this one follow. Among the lanes:
-- what the head told, the number of this one, how many follow it, and how many lines of this kind
-- follow
pub data BoardPlace (H : Type 0) : Type 0 where
  InHead : H → BoardPlace H
  Seal : Frame → ℕ → List ℕ → BoardPlace H
  Input : Frame → ℕ → List ℕ → ℕ → BoardPlace H
  Lane : Frame → ℕ → ℕ → BoardPlace H
  Wire : Frame → ℕ → ℕ → ℕ → BoardPlace H
  Row : Frame → ℕ → ℕ → ℕ → BoardPlace H
  Last : BoardPlace H
  Over : BoardPlace H

abbrev pub is_over : {H : Type 0} → BoardPlace H → Bool
is_over Over = true
is_over _ = false

-- the place where so many lanes are left, from that number on
abbrev pub lane_place : {H : Type 0} → Frame → ℕ → ℕ → BoardPlace H
lane_place frame lane zero = Last
lane_place frame lane (suc more) = Lane frame lane more

-- where so many rows of that lane are left, and so many lanes after it
abbrev pub row_place : {H : Type 0} → Frame → ℕ → ℕ → ℕ → BoardPlace H
row_place frame lane lanes zero = lane_place frame (lane + 1) lanes
row_place frame lane lanes (suc more) = Row frame lane lanes more

-- where so many wires of that lane are left, all its rows, and so many lanes after it
abbrev pub wire_place : {H : Type 0} → Frame → ℕ → ℕ → ℕ → BoardPlace H
wire_place frame lane lanes zero = row_place frame lane lanes frame.shape.rows
wire_place frame lane lanes (suc more) = Wire frame lane lanes more

-- where so many seals are left after those with these seats
abbrev pub seal_place : {H : Type 0} → Frame → ℕ → List ℕ → BoardPlace H
seal_place frame zero seats = lane_place frame 1 frame.lanes
seal_place frame (suc more) seats = Seal frame more seats

-- where so many lines of a seal are left, and so many seals after it; its seat is among these
abbrev pub input_place : {H : Type 0} → Frame → ℕ → List ℕ → ℕ → BoardPlace H
input_place frame seals seats zero = seal_place frame seals seats
input_place frame seals seats (suc more) = Input frame seals seats more

-- where all seals and lanes of a frame are left
abbrev pub behind_head : {H : Type 0} → Frame → BoardPlace H
behind_head frame = seal_place frame frame.seals []

-- a head by its table: its first place, and the place after a line that may stand at one of its
-- places, None where no such line may. The last of them leads to the place behind the head
pub record HeadTable (H : Type 0) : Type 0 where
  pub first : H
  pub next : H → List ℕ → Option (BoardPlace H)

abbrev pub sealed_next : {H : Type 0} → HeadTable H → BoardPlace H → List ℕ → Option (BoardPlace H)
sealed_next head (InHead place) text = head.next place text
sealed_next head (Seal frame more seats) text =
    option_map (λ seat. input_place frame more (seats ++ seat ∷ []) frame.lanes)
    (seat_line seats text)
sealed_next head (Input frame seals seats more) text =
    option_map (λ _. input_place frame seals seats more) (com_line (codes "x") text)
sealed_next head (Lane frame lane more) text =
    option_map (λ _. wire_place frame lane more frame.shape.wires)
    (number_line (codes "lane") lane lane text)
sealed_next head (Wire frame lane lanes more) text =
    option_map (λ _. wire_place frame lane lanes more) (com_line (codes "w") text)
sealed_next head (Row frame lane lanes more) text =
    option_map (λ _. row_place frame lane lanes more) (posted_line text)
sealed_next head Last text = option_map (λ _. Over) (word_of (codes "end") text)
sealed_next head Over text = None

-- a file with this head
abbrev pub sealed_table : {H : Type 0} → HeadTable H → Table (BoardPlace H)
sealed_table head = record { first = InHead head.first; next = sealed_next head; over = is_over }

-- ---- a board

-- the places of a board's head, each with its fields so far
pub data HeadPlace : Type 0 where
  Heading : HeadPlace
  Auction : ℕ → HeadPlace
  Width : ℕ → List ℕ → HeadPlace
  Lanes : ℕ → List ℕ → ℕ → HeadPlace
  Seals : ℕ → List ℕ → ℕ → ℕ → HeadPlace
  Reserve : ℕ → List ℕ → ℕ → ℕ → ℕ → HeadPlace
  Winner : ℕ → List ℕ → ℕ → ℕ → ℕ → ℕ → HeadPlace
  Price : ℕ → List ℕ → ℕ → ℕ → ℕ → ℕ → Option ℕ → HeadPlace

-- behind the number of seals: version 2 names a reserve, version 1 has none
abbrev pub reserve_place : ℕ → List ℕ → ℕ → ℕ → ℕ → BoardPlace HeadPlace
reserve_place version auction width lanes seals =
    if version == 2 then InHead (Reserve version auction width lanes seals)
    else InHead (Winner version auction width lanes seals 0)

abbrev pub head_next : (Head → Shape) → HeadPlace → List ℕ → Option (BoardPlace HeadPlace)
head_next shape Heading text =
    option_map (λ version. InHead (Auction version)) (number_line (codes "vickrey-board") 1 2 text)
head_next shape (Auction version) text =
    option_map (λ auction. InHead (Width version auction)) (id_line (codes "auction") text)
head_next shape (Width version auction) text =
    option_map (λ width. InHead (Lanes version auction width))
    (number_line (codes "width") 1 40 text)
head_next shape (Lanes version auction width) text =
    option_map (λ lanes. InHead (Seals version auction width lanes))
    (number_line (codes "lanes") 1 64 text)
head_next shape (Seals version auction width lanes) text =
    option_map (reserve_place version auction width lanes) (number_line (codes "seals") 1 64 text)
head_next shape (Reserve version auction width lanes seals) text =
    option_map (λ reserve. InHead (Winner version auction width lanes seals reserve))
    (number_line (codes "reserve") 0 (2 ^ 64 - 1) text)
head_next shape (Winner version auction width lanes seals reserve) text =
    option_map (λ winner. InHead (Price version auction width lanes seals reserve winner))
    (winner_line version text)
head_next shape (Price version auction width lanes seals reserve winner) text =
    option_map (λ price. behind_head
    (frame_of shape (head_with version auction width lanes seals reserve winner price)))
    (number_line (codes "price") 0 (2 ^ 64 - 1) text)

abbrev pub head_table : (Head → Shape) → HeadTable HeadPlace
head_table shape = record { first = Heading; next = head_next shape }

abbrev pub board_table : (Head → Shape) → Table (BoardPlace HeadPlace)
board_table shape = sealed_table (head_table shape)
