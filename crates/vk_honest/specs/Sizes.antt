-- How long the files of an honest auctioneer are: in bytes, and in lines.
use Rattle.std.specs.Prelude.{ℕ, ◌+◌, ◌-◌, ◌*◌, ◌^◌, ◌≤◌, ◌==◌, if◌then◌else◌, List, length}
use Rattle.std.specs.List.{count_by}
use Rattle.vk_vickrey.specs.BoardPlans.{BoardNumbers, board_wire_count, board_row_count}

-- a file that is not too long to be read as lines
abbrev pub IsShort : List ℕ → Type 0
IsShort bytes = length bytes ≤ 2 ^ 30

-- how many lines a text has: each ends with its line feed
abbrev pub line_count : List ℕ → ℕ
line_count text = count_by (λ byte. byte == 10) text

-- how many lines a board has before its first seal: version 2 has one more, which names the reserve
abbrev pub head_lines : ℕ → ℕ
head_lines version = if version == 2 then 8 else 7

-- how many a board has, by the numbers that it publishes and in how many lanes: those before the
-- first seal; one for each seal, and one for each of its lanes; one for each lane, for each of its
-- wires after the inputs, and for each of its rows; the end
abbrev pub board_lines : BoardNumbers → ℕ → ℕ
board_lines n lanes = head_lines n.version + n.seals * (1 + lanes)
    + lanes * (1 + (board_wire_count n - n.seals) + board_row_count n) + 1

-- and how many a reply to it has: 2 before the first lane; one for each lane, and for each of its
-- wires; the end
abbrev pub reply_lines : BoardNumbers → ℕ → ℕ
reply_lines n lanes = 2 + lanes * (1 + board_wire_count n) + 1
