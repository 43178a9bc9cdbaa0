-- How a board is read, line by line. The laws say that this is exactly its text, and stops at the
-- fault line.
use Rattle.std.specs.Prelude.{ℕ, ◌+◌, ◌^◌, ◌-◌, ◌==◌, not, Bool, if◌then◌else◌, List, length, map, codes, Option, Some, None, option_map, Result, Ok, ◌≡◌, ◌<◌, ◌⊎◌, IfSome, IsOkAnd}
use Rattle.std.specs.List.{list_all}
use Rattle.vk_residue.specs.Steps.{◌>>=◌, ◌>>?◌}
use Rattle.vk_io.specs.Files.{Files}
use Rattle.vk_lines.specs.Lines.{Rest, LinesValue, rest_of, line_by, end_at}
use Rattle.vk_lines.specs.Forms.{many_at}
use Rattle.vk_lines.specs.Tokens.{residue_of, word_of, number_token, number_line, id_line, digests_line, one_field, meets}
use Rattle.vk_wire.specs.declared.wire.WireCom.{WireCom}
use Rattle.vk_wire.specs.Coms.{com_by}
use Rattle.vk_board.specs.declared.board.Head.{Head}
use Rattle.vk_board.specs.declared.board.SealLines.{SealLines}
use Rattle.vk_board.specs.declared.board.LaneLines.{LaneLines}
use Rattle.vk_board.specs.Values.{head_with, Board, Shape, Frame, frame_of}

-- ---- lines

abbrev pub com_line : List ℕ → List ℕ → Option WireCom
com_line word text = digests_line com_by word text

abbrev pub posted_line : List ℕ → Option ℕ
posted_line text = one_field (codes "d") residue_of text

abbrev pub seats_of : List SealLines → List ℕ
seats_of seals = map (λ seal. seal.seat) seals

-- whether a seat is none of these
abbrev pub is_new_seat : List ℕ → ℕ → Bool
is_new_seat seats seat = list_all (λ earlier. not (earlier == seat)) seats

-- a bidder's seat that is none of these
abbrev pub seat_token : List ℕ → List ℕ → Option ℕ
seat_token seats text = ◌>>?◌ (number_token 1 65535 text) (meets (is_new_seat seats))

abbrev pub seat_line : List ℕ → List ℕ → Option ℕ
seat_line seats text = one_field (codes "seal") (seat_token seats) text

-- that nothing is sold, where the version knows of it
abbrev pub unsold_line : ℕ → List ℕ → Option (Option ℕ)
unsold_line version text = if version == 2
    then option_map (λ _. None) (word_of (codes "unsold") text) else None

-- the seat that won, or that nothing is sold
abbrev pub winner_or : Option ℕ → Option (Option ℕ) → Option (Option ℕ)
winner_or (Some seat) unsold = Some (Some seat)
winner_or None unsold = unsold

abbrev pub winner_line : ℕ → List ℕ → Option (Option ℕ)
winner_line version text = winner_or (number_line (codes "winner") 1 65535 text)
    (unsold_line version text)

-- ---- parts

-- the reserve, which version 2 names
unfoldable pub reserve_at : ℕ → Rest → Result (ℕ × Rest) ℕ
reserve_at version rest = if version == 2
    then line_by (number_line (codes "reserve") 0 (2 ^ 64 - 1)) rest else Ok (0, rest)

-- the head of a board
unfoldable pub head_at : Rest → Result (Head × Rest) ℕ
head_at rest =
    line_by (number_line (codes "vickrey-board") 1 2) rest >>= λ version.
    line_by (id_line (codes "auction")) version.1 >>= λ auction.
    line_by (number_line (codes "width") 1 40) auction.1 >>= λ width.
    line_by (number_line (codes "lanes") 1 64) width.1 >>= λ lanes.
    line_by (number_line (codes "seals") 1 64) lanes.1 >>= λ seals.
    reserve_at version.0 seals.1 >>= λ reserve.
    line_by (winner_line version.0) reserve.1 >>= λ winner.
    line_by (number_line (codes "price") 0 (2 ^ 64 - 1)) winner.1 >>= λ price.
    Ok (head_with version.0 auction.0 width.0 lanes.0 seals.0 reserve.0 winner.0 price.0, price.1)

-- the line that begins a seal after these
abbrev pub seat_at : List SealLines → Rest → Result (ℕ × Rest) ℕ
seat_at before rest = line_by (seat_line (seats_of before)) rest

-- a seal of so many lanes after these
unfoldable pub seal_at : ℕ → List SealLines → Rest → Result (SealLines × Rest) ℕ
seal_at lanes before rest =
    seat_at before rest >>= λ seat.
    many_at lanes (λ _. line_by (com_line (codes "x"))) seat.1 >>= λ coms.
    Ok (record { seat = seat.0; coms = coms.0 }, coms.1)

-- so many seals of so many lanes
abbrev pub seal_lines_at : ℕ → ℕ → Rest → Result (List SealLines × Rest) ℕ
seal_lines_at seals lanes rest = many_at seals (seal_at lanes) rest

-- the seals of a board with this head
abbrev pub seals_at : Head → Rest → Result (List SealLines × Rest) ℕ
seals_at head rest = seal_lines_at head.seals head.lanes rest

-- the line that begins the lane of that number
abbrev pub lane_begun_at : ℕ → Rest → Result (ℕ × Rest) ℕ
lane_begun_at lane rest = line_by (number_line (codes "lane") lane lane) rest

-- the lane of that number as far as its wires, of which so many stand after the inputs
unfoldable pub wires_at : ℕ → ℕ → Rest → Result (List WireCom × Rest) ℕ
wires_at lane wires rest =
    lane_begun_at lane rest >>= λ number.
    many_at wires (λ _. line_by (com_line (codes "w"))) number.1

-- the lane of that number, with so many wires after the inputs and so many rows
unfoldable pub lane_at : ℕ → ℕ → ℕ → Rest → Result (LaneLines × Rest) ℕ
lane_at lane wires rows rest =
    lane_begun_at lane rest >>= λ number.
    many_at wires (λ _. line_by (com_line (codes "w"))) number.1 >>= λ coms.
    many_at rows (λ _. line_by posted_line) coms.1 >>= λ posted.
    Ok (record { coms = coms.0; posted = posted.0 }, posted.1)

-- so many lanes of this shape, numbered from 1
abbrev pub lane_lines_at : ℕ → Shape → Rest → Result (List LaneLines × Rest) ℕ
lane_lines_at lanes shape rest =
    many_at lanes (λ before. lane_at (length before + 1) shape.wires shape.rows) rest

-- the lanes of a board with this head
abbrev pub lanes_at : (Head → Shape) → Head → Rest → Result (List LaneLines × Rest) ℕ
lanes_at shape head rest = lane_lines_at head.lanes (shape head) rest

-- what stands behind a head that tells this frame, to the end of the file, as the value that is
-- made of it
abbrev pub behind_at : {B : Type 0} → Frame → (List SealLines → List LaneLines → B) → Rest
    → Result (B × Rest) ℕ
behind_at frame make rest =
    seal_lines_at frame.seals frame.lanes rest >>= λ seals.
    lane_lines_at frame.lanes frame.shape seals.1 >>= λ lanes.
    end_at lanes.1 >>= λ over.
    Ok (make seals.0 lanes.0, over.1)

-- a board whose head tells the shape of its lanes
unfoldable pub board_at : (Head → Shape) → Rest → Result (Board × Rest) ℕ
board_at shape rest =
    head_at rest >>= λ head.
    behind_at (frame_of shape head.0)
    (λ seals lanes. record { head = head.0; seals = seals; lanes = lanes }) head.1

-- a reader stands behind a part that was read so, where the files are modelled
abbrev pub HasRead : {X : Type 0} → (Rest → Result (X × Rest) ℕ) → Option Files → LinesValue
    → LinesValue → Type 0
HasRead read held old new =
    IfSome held (λ files. IsOkAnd (read (rest_of old files)) (λ part. part.1 ≡ rest_of new files))

-- so many seals of so many lanes, and the line that begins the next
abbrev pub next_seal_at : ℕ → ℕ → Rest → Result (ℕ × Rest) ℕ
next_seal_at seals lanes rest = seal_lines_at seals lanes rest >>= λ before.
    seat_at before.0 before.1

-- a reader stands where it stood, or behind the line that begins one of so many seals
abbrev pub IsAmongSeals : ℕ → ℕ → Option Files → LinesValue → LinesValue → Type 0
IsAmongSeals seals lanes held old new = (new ≡ old)
    ⊎ ((before : ℕ) × (before < seals) × HasRead (next_seal_at before lanes) held old new)

-- a reader stands so among the seals behind a head
abbrev pub IsAmongFront : Option Files → LinesValue → LinesValue → Type 0
IsAmongFront held old new =
    (head : Head) × (behind : LinesValue)
    × IfSome held (λ files. head_at (rest_of old files) ≡ Ok (head, rest_of behind files))
    × IsAmongSeals head.seals head.lanes held behind new
