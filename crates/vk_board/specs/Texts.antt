-- The text of a board, part by part and line by line.
use Rattle.std.specs.Prelude.{ℕ, ◌==◌, if◌then◌else◌, List, [], ◌∷◌, ◌++◌, codes, decimal, Option, Some, None}
use Rattle.std.specs.List.{flat_map}
use Rattle.vk_lines.specs.Forms.{digests_text, line, spaced, numbered_text}
use Rattle.vk_lines.specs.Tokens.{hex_text}
use Rattle.vk_wire.specs.declared.wire.WireCom.{WireCom}
use Rattle.vk_board.specs.declared.board.Head.{Head}
use Rattle.vk_board.specs.declared.board.SealLines.{SealLines}
use Rattle.vk_board.specs.declared.board.LaneLines.{LaneLines}
use Rattle.vk_board.specs.Values.{Board}

-- the word, the digests of the first and the second commitment
abbrev pub com_text : List ℕ → WireCom → List ℕ
com_text word digests = digests_text word digests.first digests.second

-- `d`, the number of a row
abbrev pub posted_text : ℕ → List ℕ
posted_text number = spaced (codes "d" ∷ decimal number ∷ [])

-- the line of the reserve, which version 2 has
abbrev pub reserve_text : ℕ → ℕ → List ℕ
reserve_text version reserve =
    if version == 2 then line (spaced (codes "reserve" ∷ decimal reserve ∷ [])) else []

-- the seat that won, or that nothing is sold
abbrev pub winner_text : Option ℕ → List ℕ
winner_text (Some seat) = spaced (codes "winner" ∷ decimal seat ∷ [])
winner_text None = codes "unsold"

-- a line of this word and a number
abbrev pub counted_text : List ℕ → ℕ → List ℕ
counted_text word number = line (spaced (word ∷ decimal number ∷ []))

-- what a head tells behind its first line
abbrev pub told_text : Head → List ℕ
told_text head =
    line (spaced (codes "auction" ∷ hex_text head.auction ∷ []))
    ++ (counted_text (codes "width") head.width
    ++ (counted_text (codes "lanes") head.lanes
    ++ (counted_text (codes "seals") head.seals
    ++ (reserve_text head.version head.reserve
    ++ (line (winner_text head.winner) ++ counted_text (codes "price") head.price)))))

unfoldable pub head_text : Head → List ℕ
head_text head = counted_text (codes "vickrey-board") head.version ++ told_text head

unfoldable pub seal_lines_text : SealLines → List ℕ
seal_lines_text seal =
    line (spaced (codes "seal" ∷ decimal seal.seat ∷ []))
    ++ flat_map (λ digests. line (com_text (codes "x") digests)) seal.coms

-- of the lane of that number
unfoldable pub lane_text : ℕ → LaneLines → List ℕ
lane_text lane lines =
    line (spaced (codes "lane" ∷ decimal lane ∷ []))
    ++ (flat_map (λ digests. line (com_text (codes "w") digests)) lines.coms
    ++ flat_map (λ number. line (posted_text number)) lines.posted)

-- of lanes one after another, of which the first has that number
abbrev pub lanes_text : ℕ → List LaneLines → List ℕ
lanes_text lane lanes = numbered_text lane_text lane lanes

-- what stands behind a head, to the end of the file
abbrev pub behind_text : List SealLines → List LaneLines → List ℕ
behind_text seals lanes =
    flat_map seal_lines_text seals
    ++ (lanes_text 1 lanes
    ++ line (codes "end"))

unfoldable pub board_text : Board → List ℕ
board_text board = head_text board.head ++ behind_text board.seals board.lanes
