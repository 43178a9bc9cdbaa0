-- The line that words of no form are answered with.
use Rattle.std.specs.Prelude.{ℕ, List, ◌++◌, codes, map}
use Rattle.std.specs.List.{join_with_byte}
use Rattle.vk_lines.specs.Forms.{line}
use Rattle.vk_words.specs.Table.{commands}

-- the names of the commands, with `|` between each two
unfoldable pub usage_text : List ℕ
usage_text = line (codes "usage: vickrey " ++ join_with_byte 124 (map (λ row. row.name) commands))
